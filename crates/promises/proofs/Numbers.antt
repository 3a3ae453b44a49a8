-- By which numbers the parts refuse: a query by 1 to 5, a shelf's walk by 6 and 7. Assumes nothing.
use Prim.Native.Nat.{ℕ, zero, suc, ◌+◌, ◌-◌, ◌*◌, ◌≤◌}
use native.Mathlib.Omega.{arith}
use mathlib.Core.Bool.{Bool, true, false, cond, ◌&&◌}
use mathlib.Core.List.{List, [], ◌∷◌}
use lib.Dec.{leb, ltb, eqb}
use lib.ListN.{length, drop}
use Rattle.std.specs.Prelude.{Result, Ok, Err}
use Rattle.model.specs.Limits.{max_k, max_terms, max_shelf}
use Rattle.model.specs.Outcome.{Outcome, refused, done, and_then}
use Rattle.model.specs.Runs.{has}
use Rattle.block.specs.Summary.{is_sum, sum_of, right_sum}
use Rattle.block.specs.Body.{is_strip, tag_of}
use Rattle.wire.specs.Field.{whole}
use Rattle.shelf.specs.Walk.{head_count, right_head, one_sum, sums, one_body, bodies_of, bodies, list, lists, walk}
use Rattle.query.specs.Query.{Asked, Question, field_count, unless, all_right, weighted, unrepeated, judge, asked}
use Rattle.promises.specs.Refusals.{Numbered}

module _ (P : ℕ → Type 0) where
  pub then_numbered : {A B : Type 0} (o : Outcome A) (f : A → Outcome B) → Numbered P o → ((x : A) → Numbered P (f x)) → Numbered P (and_then o f)
  then_numbered (refused n at) f p g = p
  then_numbered (done x) f p g = g x

  pub either_numbered : {A : Type 0} (t : Bool) (o p : Outcome A) → Numbered P o → Numbered P p → Numbered P (cond t o p)
  either_numbered true o p a b = a
  either_numbered false o p a b = b

pub renumbered : {A : Type 0} (P Q : ℕ → Type 0) (o : Outcome A) → ((n : ℕ) → P n → Q n) → Numbered P o → Numbered Q o
renumbered P Q (refused n at) f p = f n p
renumbered P Q (done x) f p = tt

-- ---- a query

abbrev OneToFive : ℕ → Type 0
OneToFive n = (1 ≤ n) × (n ≤ 5)

unless-numbered : (t : Bool) (n at : ℕ) → OneToFive n → Numbered OneToFive (unless t n at)
unless-numbered true n at p = tt
unless-numbered false n at p = p

fields_numbered : (r : Result ℕ ℕ) → Numbered OneToFive (all_right r)
fields_numbered (Ok n) = tt
fields_numbered (Err at) = (omega arith, omega arith)

weights-numbered : (i : ℕ) (xs : List Asked) → Numbered OneToFive (weighted i xs)
weights-numbered i [] = tt
weights-numbered i (x ∷ xs) = either_numbered OneToFive (eqb x.weight 0) (refused 4 (4 + 8 * i)) (weighted (i + 1) xs) (omega arith, omega arith) (weights-numbered (i + 1) xs)

terms-numbered : (before : List ℕ) (i : ℕ) (xs : List Asked) → Numbered OneToFive (unrepeated before i xs)
terms-numbered before i [] = tt
terms-numbered before i (x ∷ xs) =
    either_numbered OneToFive (has x.term before) (refused 5 (4 + 8 * i)) (unrepeated (x.term ∷ before) (i + 1) xs) (omega arith, omega arith) (terms-numbered (x.term ∷ before) (i + 1) xs)

judge-numbered : (size : ℕ) (x : Question) → Numbered OneToFive (judge size x)
unfolding judge
judge-numbered size x =
    then_numbered OneToFive (unless (ltb 0 x.k && leb x.k max_k) 2 0) _ (unless-numbered (ltb 0 x.k && leb x.k max_k) 2 0 (omega arith, omega arith)) (λ ok.
    then_numbered OneToFive (unless (ltb 0 (length x.terms)) 3 size) _ (unless-numbered (ltb 0 (length x.terms)) 3 size (omega arith, omega arith)) (λ ok.
    then_numbered OneToFive (unless (leb (length x.terms) max_terms) 3 68) _ (unless-numbered (leb (length x.terms) max_terms) 3 68 (omega arith, omega arith)) (λ ok.
    then_numbered OneToFive (weighted 0 x.terms) _ (weights-numbered 0 x.terms) (λ ok. terms-numbered [] 0 x.terms))))

pub asked-numbered : (q : List ℕ) → Numbered OneToFive (asked q)
unfolding asked
asked-numbered q =
    then_numbered OneToFive (all_right (field_count q)) _ (fields_numbered (field_count q)) (λ n.
    then_numbered OneToFive (judge (length q) _) _ (judge-numbered (length q) _) (λ ok. tt))

-- ---- a shelf's walk

abbrev SixOrSeven : ℕ → Type 0
SixOrSeven n = (6 ≤ n) × (n ≤ 7)

sum-numbered : (prev at : ℕ) (s : List ℕ) → Numbered SixOrSeven (one_sum prev at s)
unfolding one_sum
sum-numbered prev at s =
    either_numbered SixOrSeven (is_sum s) (cond (right_sum prev (sum_of false s)) (done (sum_of false s).greatest) (refused 7 at)) (refused 6 at)
    (either_numbered SixOrSeven (right_sum prev (sum_of false s)) (done (sum_of false s).greatest) (refused 7 at) tt (omega arith, omega arith)) (omega arith, omega arith)

sums-numbered : (n prev at : ℕ) (s : List ℕ) → Numbered SixOrSeven (sums n prev at s)
unfolding sums
sums-numbered zero prev at s = tt
sums-numbered (suc n) prev at s = then_numbered SixOrSeven (one_sum prev at s) _ (sum-numbered prev at s) (λ g. sums-numbered n g (at + 12) (drop 12 s))

bodies-of-numbered : (strip : Bool) (n at : ℕ) (s : List ℕ) → Numbered SixOrSeven (bodies_of strip n at s)
unfolding bodies_of one_body
bodies-of-numbered strip zero at s = tt
bodies-of-numbered strip (suc n) at s =
    then_numbered SixOrSeven (one_body strip at s) _ (either_numbered SixOrSeven (whole (tag_of strip) s) _ (refused 6 at) tt (omega arith, omega arith)) (λ k. bodies-of-numbered strip n (at + k) (drop k s))

bodies-numbered : (n at : ℕ) (s : List ℕ) → Numbered SixOrSeven (bodies n at s)
unfolding bodies
bodies-numbered n at s = bodies-of-numbered (is_strip s) n at s

list-numbered : (floor at : ℕ) (s : List ℕ) → Numbered SixOrSeven (list floor at s)
unfolding list
list-numbered floor at s =
    either_numbered SixOrSeven (right_head floor s) _ (refused 6 at)
    (then_numbered SixOrSeven (sums (head_count s) 0 (at + 8) (drop 8 s)) _ (sums-numbered (head_count s) 0 (at + 8) (drop 8 s)) (λ b.
    then_numbered SixOrSeven (bodies (head_count s) b (drop (8 + 12 * head_count s) s)) _ (bodies-numbered (head_count s) b (drop (8 + 12 * head_count s) s)) (λ next. tt)))
    (omega arith, omega arith)

lists-numbered : (n floor at : ℕ) (s : List ℕ) → Numbered SixOrSeven (lists n floor at s)
unfolding lists
lists-numbered zero floor at [] = tt
lists-numbered zero floor at (b ∷ s) = (omega arith, omega arith)
lists-numbered (suc n) floor at [] = tt
lists-numbered (suc n) floor at (b ∷ s) =
    then_numbered SixOrSeven (list floor at (b ∷ s)) _ (list-numbered floor at (b ∷ s)) (λ l.
    then_numbered SixOrSeven (lists n (l.place.term + 1) l.place.next (drop (l.place.next - at) (b ∷ s))) _
    (lists-numbered n (l.place.term + 1) l.place.next (drop (l.place.next - at) (b ∷ s))) (λ ls. tt))

pub walk-numbered : (s : List ℕ) → Numbered SixOrSeven (walk s)
unfolding walk
walk-numbered s = either_numbered SixOrSeven (leb (length s) max_shelf) (lists 1024 0 0 s) (refused 6 0) (lists-numbered 1024 0 0 s) (omega arith, omega arith)
