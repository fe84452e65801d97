-- Texts written one after the other, and into a part of the output.
use mathlib.Core.Bool.{Bool, true}
use mathlib.Core.List.{List, [], ◌++◌, append-nil}
use mathlib.Core.Path.{◌≡◌, refl, sym, ap, ◌∙◌}
use Prim.Native.Nat.{ℕ, ◌+◌, ◌-◌, ◌≤◌}
use native.Mathlib.Omega.{arith}
use borrow.Author.Tests.{le-leb}
use borrow.Rule.Slice.PartMut.{put_mid}
use lib.Dec.{leb}
use lib.ListN.{length, take, drop, length-append, drop_of_length-le}
use lib.Seq.{drop-drop}
use Rattle.std.specs.List.{between}
use Rattle.std.proofs.lemmas.Slice.{between_to_end}
use Rattle.lines.specs.Digits.{digits, overwritten, DigitsWritten}
use Rattle.lines.proofs.WriteLaws.{length_digits}
use Rattle.lines.proofs.OverLaws.{take_over, over_over, over_none}
use Rattle.text.specs.Replies.{Wrote, reply_line}

pub wrote-more : (out first : List ℕ) (place : ℕ) (middle second : List ℕ) (size : ℕ) (after : List ℕ)
    → Wrote out first place middle
    → length second ≡ size
    → after ≡ overwritten middle place second
    → Wrote out (first ++ second) (place + size) after
wrote-more out first place middle second size after w same more =
    let at : place ≡ 0 + length first = w.count ∙ omega arith in
    record {
      count = rw length-append (omega arith);
      bytes = more ∙ rw (w.bytes, at) (over_over out 0 (omega arith) first second);
    }

pub wrote_none : (out : List ℕ) → Wrote out [] 0 out
wrote_none out = record { count = refl; bytes = rw (over_none out 0) }

pub over-digits : (out : List ℕ) (place n value : ℕ) (done : Bool) (after : List ℕ)
    → place + n ≤ length out → DigitsWritten out place n value done after → after ≡ overwritten out place (digits n value)
over-digits out place n value done after room w =
    let fits : leb (place + n) (length out) ≡ true = le-leb _ _ room in
    w.bytes ∙ rw fits

pub wrote-digits : (out : List ℕ) (n value : ℕ) (done : Bool) (after : List ℕ)
    → n ≤ length out → DigitsWritten out 0 n value done after → Wrote out (digits n value) n after
wrote-digits out n value done after room w =
    record { count = sym (length_digits n value); bytes = over-digits out 0 n value done after (omega arith) w }

-- A part of the output, as long as what it now holds.
pub over_part : (out : List ℕ) (place size : ℕ) (bytes : List ℕ) → length bytes ≡ size
    → put_mid place size out bytes ≡ overwritten out place bytes
over_part out place size bytes is = rw (← is) (ap (λ (l : List ℕ). take place out ++ (bytes ++ l)) (drop-drop (length bytes) place out))

-- What is left of the output from a place on, of which the text is the beginning.
pub over_rest : (out : List ℕ) (place : ℕ) (text part : List ℕ)
    → place ≤ length out
    → part ≡ overwritten (between place (length out) out) 0 text
    → put_mid place (length out - place) out part ≡ overwritten out place text
over_rest out place text part within is =
    let whole : between place (length out) out ≡ drop place out = between_to_end out place (length out) (omega arith) in
    let none : drop (length out - place) (drop place out) ≡ [] =
    drop-drop (length out - place) place out ∙ drop_of_length-le out {i = place + (length out - place)} (omega arith) in
    let start : 0 + length text ≡ length text = omega arith in
    rw (is, whole, none, append-nil, drop-drop, start)

pub length_reply : (n first m second : ℕ) → length (reply_line n first m second) ≡ n + m + 1
unfolding reply_line
length_reply n first m second = simp (length-append, length_digits) (omega arith)

-- The output begins with what was written: for callers that pass it on.
pub wrote-begins : (out text : List ℕ) (wrote : ℕ) (after : List ℕ) → Wrote out text wrote after → take (length text) after ≡ text
wrote-begins out text wrote after w =
    let on : length text ≡ 0 + length text = omega arith in
    rw w.bytes (ap (λ (n : ℕ). take n (overwritten out 0 text)) on ∙ take_over out 0 (omega arith) text)
