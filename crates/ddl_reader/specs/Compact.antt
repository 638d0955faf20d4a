-- Texts and columns of rows as they are kept.
use Rattle.std.specs.Prelude.{ℕ, zero, suc, List, [], ◌∷◌, ◌++◌}
use Rattle.ddl_reader.specs.declared.compact_text.KeptText.{KeptText}
use Rattle.ddl_reader.specs.declared.compact_text.KeptText.TheVariants as text_is
use Rattle.ddl_reader.specs.declared.columns.Places.{Places}
use Rattle.ddl_reader.specs.declared.columns.Places.TheVariants as places_are

abbrev pub kept_bytes : KeptText → List ℕ
kept_bytes (text_is.Short bytes) = bytes
kept_bytes (text_is.Long text) = text

-- the numbers below n
abbrev pub below : ℕ → List ℕ
below zero = []
below (suc n) = below n ++ n ∷ []

abbrev pub places_in : Places → List ℕ
places_in (places_are.First count) = below count
places_in (places_are.Named places) = places
