pub mod Getting
