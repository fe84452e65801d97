-- The verdict as one number (document 02, E4): "one number whose bit k is the verdict of the k-th listed row (k from 0), other bits 0".
use Rattle.std.specs.Prelude.{Bool, List, [], ◌∷◌, map, ℕ, ◌+◌, ◌*◌, take}
use Rattle.row_list.specs.RowList.{list_limit}
use Rattle.row_list.specs.Truths.{byte_of, truth_at}

-- The number with these bits, the lowest first.
unfoldable pub bits_of : List Bool → ℕ
bits_of [] = 0
bits_of (bit ∷ bits) = byte_of bit + 2 * bits_of bits

-- Of a longer list than any that passes the first numbers count.
unfoldable pub verdict_number : (truths list : List ℕ) → ℕ
verdict_number truths list = bits_of (map (truth_at truths) (take list_limit list))
