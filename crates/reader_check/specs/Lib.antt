-- Document 01, "What the full check demands".
pub mod FullCheck
