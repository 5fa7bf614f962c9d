-- The survey text: its form, what `split` prints of it, and what the code promises. Definitions only; what is proved of
-- them is in proofs/.
pub mod Form
pub mod Sizes
pub mod Print
pub mod Code
pub mod Found
pub mod Answers
pub mod Surveys
