-- The version of what C sees: "Raised whenever the record or a code changes".
use Rattle.std.specs.Prelude.{ℕ}

abbrev pub version : ℕ
version = 6
