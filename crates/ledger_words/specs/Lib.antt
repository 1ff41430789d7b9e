pub mod LedgerWords
pub mod Room
pub mod LedgerCalls
