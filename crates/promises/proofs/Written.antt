-- One writing is bytes: each number is below 256. Assumes nothing.
use Prim.Native.Nat.{ℕ, zero, suc, ◌-◌, ◌/◌, ◌%◌, ◌<◌}
use native.Mathlib.Omega.{arith}
use mathlib.Core.Bool.{Bool, true, false}
use mathlib.Core.List.{List, [], ◌∷◌, ◌++◌}
use borrow.Author.Tests.{ltb-true}
use lib.Dec.{ltb}
use lib.ListN.{length}
use Rattle.model.specs.Post.{Post}
use Rattle.model.specs.Runs.{All, Bytes}
use Rattle.model.proofs.Lists.{split, All_append}
use Rattle.wire.specs.Number.{be}
use Rattle.wire.specs.Field.{field_bytes}
use Rattle.wire.specs.Gap.{gap_in, gap_bytes}
use Rattle.block.specs.Summary.{sum_bytes, summary_of}
use Rattle.block.specs.Body.{tag_of, in_turn, in_strip, later_bytes, front_bytes, back_bytes, body_bytes}
use Rattle.block.specs.declared.summary.Summary.{Summary}
use Rattle.list.specs.Write.{packed, sums_bytes, bodies_bytes, blocks_bytes, list_bytes, Word, writing}

abbrev Small : List ℕ → Type 0
Small s = All (λ (b : ℕ). b < 256) s

small_bytes : (s : List ℕ) → Small s → Bytes s
small_bytes [] a i = omega arith
small_bytes (b ∷ s) a zero = a.0
small_bytes (b ∷ s) a (suc i) = small_bytes s a.1 i

join : (s t : List ℕ) → Small s → Small t → Small (s ++ t)
join s t a b = All_append (λ (x : ℕ). x < 256) s t a b

be-small : (n v : ℕ) → Small (be n v)
unfolding be
be-small zero v = tt
be-small (suc n) v = join (be n (v / 256)) (v % 256 ∷ []) (be-small n (v / 256)) (omega arith, tt)

gap-small : (n v : ℕ) → Small (gap_in n v)
unfolding gap_in
gap-small zero v = tt
gap-small (suc n) v =
    split (ltb v 128)
    (λ e. let l : v < 128 = ltb-true _ _ e in rw e (omega arith, tt))
    (λ e. rw e (omega arith, gap-small n (v / 128)))

field-small : (t : ℕ) (v : List ℕ) → t < 256 → Small v → Small (field_bytes t v)
unfolding field_bytes
field-small t v l a = join (t ∷ be 2 (length v)) v (l, be-small 2 (length v)) a

-- a score of either layout, where it stands
turn_small : (strip : Bool) (w : ℕ) → Small (in_turn strip w)
turn_small true w = tt
turn_small false w = be-small 2 w

strip-small : (strip : Bool) (w : ℕ) → Small (in_strip strip w)
strip-small true w = be-small 2 w
strip-small false w = tt

later-small : (strip : Bool) (d : ℕ) (ps : List Post) → Small (later_bytes strip d ps)
unfolding later_bytes
later-small strip d [] = tt
later-small strip d (p ∷ ps) =
    join (gap_bytes (p.doc - d - 1)) (in_turn strip p.score ++ later_bytes strip p.doc ps) (gap-small 5 (p.doc - d - 1))
    (join (in_turn strip p.score) (later_bytes strip p.doc ps) (turn_small strip p.score) (later-small strip p.doc ps))

front-small : (strip : Bool) (ps : List Post) → Small (front_bytes strip ps)
unfolding front_bytes
front-small strip [] = tt
front-small strip (p ∷ ps) = join (in_turn strip p.score) (later_bytes strip p.doc ps) (turn_small strip p.score) (later-small strip p.doc ps)

back_small : (strip : Bool) (ps : List Post) → Small (back_bytes strip ps)
unfolding back_bytes
back_small strip [] = tt
back_small strip (p ∷ ps) = join (in_strip strip p.score) (back_bytes strip ps) (strip-small strip p.score) (back_small strip ps)

body-small : (strip : Bool) (ps : List Post) → Small (body_bytes strip ps)
unfolding body_bytes
body-small strip ps = join (front_bytes strip ps) (back_bytes strip ps) (front-small strip ps) (back_small strip ps)

sum-small : (m : Summary) → Small (sum_bytes m)
unfolding sum_bytes
sum-small m =
    field-small 2 (be 3 m.least ++ (be 3 m.greatest ++ (be 2 m.top ++ be 1 m.count))) (omega arith)
    (join (be 3 m.least) _ (be-small 3 m.least)
    (join (be 3 m.greatest) _ (be-small 3 m.greatest) (join (be 2 m.top) (be 1 m.count) (be-small 2 m.top) (be-small 1 m.count))))

sums-small : (strip : Bool) (bs : List (List Post)) → Small (sums_bytes strip bs)
unfolding sums_bytes
sums-small strip [] = tt
sums-small strip (b ∷ bs) = join (sum_bytes (summary_of strip b)) (sums_bytes strip bs) (sum-small (summary_of strip b)) (sums-small strip bs)

tag_small : (strip : Bool) → tag_of strip < 256
tag_small true = omega arith
tag_small false = omega arith

bodies-small : (strip : Bool) (bs : List (List Post)) → Small (bodies_bytes strip bs)
unfolding bodies_bytes
bodies-small strip [] = tt
bodies-small strip (b ∷ bs) =
    join (field_bytes (tag_of strip) (body_bytes strip b)) (bodies_bytes strip bs) (field-small (tag_of strip) (body_bytes strip b) (tag_small strip) (body-small strip b)) (bodies-small strip bs)

list-small : (strip : Bool) (t : ℕ) (ps : List Post) → Small (list_bytes strip t ps)
unfolding list_bytes blocks_bytes
list-small strip t ps =
    let bs = packed 64 ps in
    join (field_bytes 1 (be 4 t ++ be 1 (length bs))) (sums_bytes strip bs ++ bodies_bytes strip bs)
    (field-small 1 (be 4 t ++ be 1 (length bs)) (omega arith) (join (be 4 t) (be 1 (length bs)) (be-small 4 t) (be-small 1 (length bs))))
    (join (sums_bytes strip bs) (bodies_bytes strip bs) (sums-small strip bs) (bodies-small strip bs))

writing-small : (ws : List Word) → Small (writing ws)
unfolding writing
writing-small [] = tt
writing-small (w ∷ ws) = join (list_bytes w.strip w.term w.posts) (writing ws) (list-small w.strip w.term w.posts) (writing-small ws)

pub writing-bytes : (ws : List Word) → Bytes (writing ws)
writing-bytes ws = small_bytes (writing ws) (writing-small ws)
