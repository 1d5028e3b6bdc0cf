pub mod CodeFormed
