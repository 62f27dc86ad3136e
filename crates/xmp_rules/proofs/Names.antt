-- Two names are the same exactly where they are equal.
use Rattle.std.proofs.Common.{◌≡◌, true}
use Rattle.std.specs.Cmp.Lexicographic.{bytes_decides}
use Rattle.xmp_scopes.specs.Names.{Name, is_same}

pub equal_of_same : (a b : Name) → is_same a b ≡ true → a ≡ b
equal_of_same a b e = (bytes_decides a b).0 e

pub same_of_equal : (a b : Name) → a ≡ b → is_same a b ≡ true
same_of_equal a b e = (bytes_decides a b).1 e
