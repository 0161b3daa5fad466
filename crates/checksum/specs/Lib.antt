-- CRC-32: as a register, bit by bit, and in the words of IEEE 802.3.
pub mod Crc32
pub mod Ieee8023
