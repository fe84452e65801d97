-- Calls in place are the stream, by induction over the calls made: the newest is the stream's call from where those before it left record and words.
use mathlib.Core.List.{List, [], ◌∷◌, ◌++◌, map-append}
use mathlib.Core.Path.{◌≡◌, refl, sym, ap, ◌∙◌}
use Prim.Native.Nat.{ℕ}
use Rattle.soundness.specs.declared.record.Record.{Record}
use Rattle.soundness.specs.Setup.{Setup}
use Rattle.monitor.specs.Step.{Call, Reply, step_of}
use Rattle.promises.specs.Stream.{State, call, next, after, started}
use Rattle.promises.specs.LineTimes.{replies}
use Rattle.promises.proofs.StreamLaws.{after_append}
use Rattle.codes.specs.Code.{code_of}
use Rattle.board.specs.Left.{Left, coded_of, StartLeaves, CallLeaves}
use Rattle.board_promises.specs.Made.{Made, none, more}
use Rattle.board_promises.specs.Calls.{standing, AsStream, CallsAreTheStream}

replies-more : (setup : Setup) (s : State) (calls : List Call) (c : Call)
    → replies setup s (calls ++ (c ∷ [])) ≡ replies setup s calls ++ ((call setup (after setup s calls) c).reply ∷ [])
unfolding replies after
replies-more setup s [] c = refl
replies-more setup s (d ∷ calls) c =
    ap (λ (given : List Reply). (call setup s d).reply ∷ given) (replies-more setup (next setup s d) calls c)

after_more : (setup : Setup) (s : State) (calls : List Call) (c : Call) → after setup s (calls ++ (c ∷ [])) ≡ next setup (after setup s calls) c
unfolding after
after_more setup s calls c = after_append setup s calls (c ∷ [])

-- One call more, made where the stream's record and words stand.
one-made : (setup : Setup) (s : State) (calls : List Call) (codes : List ℕ) (between : Record) (stand : List ℕ)
    (c : Call) (code : ℕ) (kept : Record) (words : List ℕ)
    → AsStream setup s calls codes between stand
    → CallLeaves setup stand between c code kept words
    → AsStream setup s (calls ++ (c ∷ [])) (codes ++ (code ∷ [])) kept words
one-made setup s calls codes between stand c code kept words so_far made =
    let here : State = after setup s calls in
    let same : coded_of (step_of setup stand between c) ≡ coded_of (call setup here c) = rw (so_far.words_are, so_far.kept_is) in
    let said : Left = coded_of (call setup here c) in
    let code_is : code ≡ said.code = ap (λ (l : Left). l.code) (made ∙ same) in
    let kept_is : kept ≡ said.kept = ap (λ (l : Left). l.kept) (made ∙ same) in
    let words_are : words ≡ said.store = ap (λ (l : Left). l.store) (made ∙ same) in
    record {
      codes_are =
          rw (so_far.codes_are, code_is, replies-more setup s calls c)
          (sym (map-append code_of (replies setup s calls) ((call setup here c).reply ∷ [])));
      kept_is = rw (after_more setup s calls c) kept_is;
      words_are = rw (after_more setup s calls c) words_are;
    }

from_any : (setup : Setup) (store : List ℕ) (found : Record) (calls : List Call) (codes : List ℕ) (kept : Record) (words : List ℕ)
    → Made setup store found calls codes kept words
    → AsStream setup (standing store found) calls codes kept words
unfolding after replies
from_any setup store found _ _ _ _ none = record { codes_are = refl; kept_is = refl; words_are = refl }
from_any setup store found _ _ _ _ (more {calls = calls} {codes = codes} {between = between} {stand = stand} made c code kept words last) =
    one-made setup (standing store found) calls codes between stand c code kept words
    (from_any setup store found calls codes between stand made) last

-- A start that answered 0 left what the stream begins with.
from_start : (setup : Setup) (lent store : List ℕ) (found : Record) (calls : List Call) (codes : List ℕ) (kept : Record) (words : List ℕ)
    → StartLeaves setup lent 0 found store
    → Made setup store found calls codes kept words
    → AsStream setup (started setup lent) calls codes kept words
from_start setup lent store found calls codes kept words start made =
    let found-is : found ≡ (started setup lent).found = ap (λ (l : Left). l.kept) start in
    let store_is : store ≡ (started setup lent).store = ap (λ (l : Left). l.store) start in
    rw (found-is, store_is) at (from_any setup store found calls codes kept words made)

-- Before calls that are made, another one.
made-before : (setup : Setup) (store : List ℕ) (found : Record) (c : Call) (code : ℕ) (between : Record) (stand : List ℕ)
    (calls : List Call) (codes : List ℕ) (kept : Record) (words : List ℕ)
    → CallLeaves setup store found c code between stand
    → Made setup stand between calls codes kept words
    → Made setup store found (c ∷ calls) (code ∷ codes) kept words
made-before setup store found c code between stand _ _ _ _ first none = more none c code between stand first
made-before setup store found c code between stand _ _ _ _ first
    (more {calls = calls} {codes = codes} {between = middle} {stand = held} made d answer kept words last) =
    more (made-before setup store found c code between stand calls codes middle held first made) d answer kept words last

all_made : (setup : Setup) (store : List ℕ) (found : Record) (calls : List Call)
    → (codes : List ℕ) × (kept : Record) × (words : List ℕ) × Made setup store found calls codes kept words
all_made setup store found [] = ([], found, store, none)
all_made setup store found (c ∷ calls) =
    let o : Left = coded_of (step_of setup store found c) in
    let rest = all_made setup o.store o.kept calls in (
      o.code ∷ rest.0,
      rest.1,
      rest.2,
      made-before setup store found c o.code o.kept o.store calls rest.0 rest.1 rest.2 refl rest.3,
    )

pub calls_are_the_stream : CallsAreTheStream
calls_are_the_stream = record { from_start = from_start; from_any = from_any; all_made = all_made }
