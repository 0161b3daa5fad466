-- Laws of the journal, for the code.
pub mod JournalLaws
pub mod Determined
