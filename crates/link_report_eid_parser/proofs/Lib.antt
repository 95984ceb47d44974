pub mod Escapes
mod Numbers
mod Texts
