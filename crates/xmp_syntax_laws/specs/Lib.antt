pub mod OpenParts
