-- Laws of the register, and that it gives the remainder that the standard defines.
pub mod Xor
pub mod Linear
pub mod Points
pub mod Division
pub mod Register
