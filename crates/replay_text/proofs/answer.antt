pub mod Decimal
pub mod AnswerLine
