-- What the code's own functions say of one another, step by step. No definition of a plan, of its text or of its faults
-- rests on these: the laws and the contract of `Plan::read` tell that what they compute is what the definitions say.
pub mod Words
pub mod Written
pub mod Reading
pub mod Inside
pub mod Printed
pub mod Extents
