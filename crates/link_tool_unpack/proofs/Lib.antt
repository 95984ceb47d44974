mod Payloads
mod Transfers
mod Reports
mod Told
