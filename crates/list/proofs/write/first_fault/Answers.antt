-- `list::first_fault` meets its contract. The invariant: the postings passed, and the fault of those that are left, make the fault of all. Assumes nothing.
use Rattle.std.specs.Iterator.Adapters.{enumerate_source, enumerate_count, zip_first, zip_second}
use Rattle.std.specs.Slice.Iter.{iter_rest, iter_steps}
use Rattle.std.proofs.Common.{Iter, None}
use mathlib.Core.List.{List, [], ◌∷◌}
use mathlib.Core.Logic.{◌⊎◌, inl, inr}
use mathlib.Core.Path.{◌≡◌, refl, sym, ap, ◌∙◌}
use Prim.Native.Nat.{ℕ, ◌+◌, ◌<◌, ◌≤◌}
use native.Mathlib.Omega.{arith}
use lib.ListN.{length, get_or, drop, length-drop}
use Rattle.model.proofs.Lists.{rest_cons}
use Rattle.model.specs.Limits.{max_docid}
use Rattle.model.specs.Post.{Post, postings, post}
use Rattle.list.specs.Write.{fault_at}
use Rattle.list.proofs.Faults.{fault_low, fault_high, fault-score, fault-on, fault-end}
use Rattle.list.proofs.write.first_fault.Goals as goal

-- what comes next, of both runs
next : (d w : ℕ) (ds ss xs ys : List ℕ) → ds ≡ d ∷ xs → ss ≡ w ∷ ys → postings ds ss ≡ post d w ∷ postings xs ys
next d w ds ss xs ys e f = rw (e, f)

at_fault : (p d w : ℕ) (ps : List Post) → (d ≤ p) ⊎ ((p < d) × (max_docid < d)) ⊎ ((p < d) × (d ≤ max_docid) × (w ≡ 0)) → fault_at p (post d w ∷ ps) ≡ 0
at_fault p d w ps (inl h) = fault_low p d w ps h
at_fault p d w ps (inr (inl h)) = fault_high p d w ps h.1
at_fault p d w ps (inr (inr h)) = fault-score p d w ps h.2

-- the element at the front of what is left from index i, and what is left past it
drop_next : (l : List ℕ) (i w : ℕ) (r : List ℕ) → w ∷ r ≡ drop i l → (w ≡ get_or l i 0) × (r ≡ drop (i + 1) l)
drop_next l i w r e =
    let h : i < length l = omega (arith, ap length e, length-drop i l) in
    let q : w ∷ r ≡ get_or l i 0 ∷ drop (i + 1) l = e ∙ rest_cons l i h in
    (cc, cc)

-- one run has no more, so neither has
ended : (a b : Iter ℕ) → length (iter_rest a) ≡ length (iter_rest b) → ((u : Iter ℕ) × iter_steps a None u) ⊎ ((u : Iter ℕ) × iter_steps b None u) → length (iter_rest a) ≡ 0
ended a b e (inl h) = h.1.0
ended a b e (inr h) = e ∙ h.1.0

none : (ds ss : List ℕ) → length ds ≡ 0 → postings ds ss ≡ []
none [] ss h = refl
none (d ∷ ds) ss h = absurd (omega arith)

pub returns-then-d-p : goal.returns-then-d-p
returns-then-d-p c =
    let l = c.loop-i in
    let s = c.in-Some.ensures.steps in
    let d = c.in-Some.field-0-1-0.now in
    let w = c.in-Some.field-0-1-1.now in
    let n = enumerate_source c.next.new.self in
    let e = next d w _ _ _ _ s.0.0 s.0.1 in
    let z = at_fault l.p d w (postings (iter_rest (zip_first n)) (iter_rest (zip_second n))) c.then-d-p.either in
    omega (arith, s.1, ap (fault_at l.p) e, z, l.invariant)

pub loop-i-preserved : goal.loop-i-preserved
loop-i-preserved c =
    let l = c.loop-i in
    let s = c.in-Some.ensures.steps in
    let d = c.in-Some.field-0-1-0.now in
    let w = c.in-Some.field-0-1-1.now in
    let e = next d w _ _ _ _ s.0.0 s.0.1 in
    let qs = postings (iter_rest (zip_first (enumerate_source c.next.new.self))) (iter_rest (zip_second (enumerate_source c.next.new.self))) in
    let i = enumerate_count l.i-iterator in
    let past = drop_next c.args.scores.now i w _ (sym s.0.1 ∙ l.invariant.2) in
    let small : w ≤ 65535 = omega (arith, past.0, c.type_inv.scores i) in
    let on = fault-on l.p d w qs c.if-d-p.false c.if-d-gt-MAX_DOCID.false (omega (arith, c.if-s-eq0.false)) small in
    let n : enumerate_count c.next.new.self ≡ i + 1 = omega arith in (
      omega (arith, n, ap length s.0.0),
      omega (arith, ap length s.0.0, ap length s.0.1),
      rw n past.1,
      omega (arith, n, ap (fault_at l.p) e, on, l.invariant.3),
    )

pub returns : goal.returns
returns c =
    let l = c.loop-i in
    let n = ended (zip_first (enumerate_source l.i-iterator)) (zip_second (enumerate_source l.i-iterator)) l.invariant.1 c.in-None.ensures.steps.0 in
    let z = none _ (iter_rest (zip_second (enumerate_source l.i-iterator))) n in
    omega (arith, n, ap (fault_at l.p) z, fault-end l.p, l.invariant)
