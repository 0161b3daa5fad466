-- Document 01, "Chunk bytes": where a chunk's bytes stand, and what is read there.
pub mod Chunks
pub mod Steps
