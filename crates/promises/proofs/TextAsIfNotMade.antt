-- A refused line makes no call and a refused frame leaves the state, so the reading can be left out.
use mathlib.Core.Bool.{false}
use mathlib.Core.Path.{◌≡◌, refl, ap}
use Rattle.lines.specs.Read.{LineReply, at_end, good_line, bad_line}
use Rattle.promises.specs.Stream.{State}
use Rattle.promises.specs.TextAsIfNotMade.{Reading, read, framed, answer_to, left_by, unrefused, readings, TextAsIfNotMade}
use Rattle.promises.proofs.LeftOut.{left_out}
use Rattle.promises.proofs.AsIfNotMade.{refused-leaves}
use Rattle.promises.proofs.Reading.{place_moves}

refused-left : (s : State) (r : Reading) (said : LineReply) → unrefused (answer_to s r said) ≡ false → left_by s r said ≡ s
refused-left s r at_end e = refl
refused-left s r (good_line given) e = refused-leaves s (framed r given) e
refused-left s r (bad_line fault) e = refl

pub text_as_if_not_made : TextAsIfNotMade
text_as_if_not_made =
    record {
      refused-line = λ s r fault e.
          record {
            number = ap (answer_to s r) e;
            place = (place_moves r.text r.place).refused fault e;
            state = ap (left_by s r) e;
          };
      refused-frame = λ s r given e refused.
          record { place = (place_moves r.text r.place).good given e; state = refused-left s r (read r).said refused };
      stream = left_out readings (λ s r. refused-left s r (read r).said);
    }
