pub mod Frame
pub mod Suspicions
pub mod LettersPicture
pub mod Inside
