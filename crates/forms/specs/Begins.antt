-- How every stored form begins: one version byte, then the length of the whole form in 4 bytes.
-- Assumes nothing.
use Rattle.std.specs.Prelude.{◌≡◌, Bool, ◌&&◌, List, ℕ, eqb}
use Rattle.forms.specs.Word.{byte, word32}

abbrev pub version : ℕ
version = 1

pub record Begins (b : List ℕ) (long : ℕ) : Type 0 where
  pub version_is : byte b 0 ≡ version
  pub length_is : word32 b 1 ≡ long

unfoldable pub begins_with : List ℕ → ℕ → Bool
begins_with b long = eqb (byte b 0) version && eqb (word32 b 1) long
