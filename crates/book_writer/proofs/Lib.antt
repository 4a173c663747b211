pub mod Contracts
pub mod Rights
pub mod Lines
pub mod Sentence
