pub mod EverySource
