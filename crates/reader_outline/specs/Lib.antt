-- A ring's outline as it is read from a file: points in lent numbers, and what each answer tells.
pub mod Held
pub mod Told
pub mod Steps
