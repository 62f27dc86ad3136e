pub mod EveryVerdict
