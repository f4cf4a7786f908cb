-- ---- claims: what the contract of the program says
pub mod Counts
pub mod Store
pub mod Sink
-- ---- scaffolding: what proofs and inner contracts say
pub mod Words
pub mod MemFiles
pub mod MemEntries
pub mod MemSink
