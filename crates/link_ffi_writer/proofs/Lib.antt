mod Fields
mod Registers
