-- What the code's answers mean.
pub mod LineMeaning
pub mod Fields
pub mod Print
-- Laws that the code's proofs cite.
pub mod FieldLaws
pub mod LineForms
pub mod Split
pub mod PrintLaws
