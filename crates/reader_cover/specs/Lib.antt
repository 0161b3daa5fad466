-- What must hold of one record of the file: the words of which the rules F2 to F6 are made.
pub mod All
pub mod Cover
