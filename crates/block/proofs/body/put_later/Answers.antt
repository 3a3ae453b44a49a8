-- `block::body::put_later` meets its contract. The invariant: to store what is left of the postings from here gives what is asked. Assumes nothing.
use Rattle.std.specs.Iterator.Adapters.{zip_first, zip_second}
use Rattle.std.specs.Slice.Iter.{iter_rest}
use Rattle.std.proofs.lemmas.Slice.Zip.{either_empty_from_Zip}
use Rattle.model.specs.Post.{Post, postings, post}
use Rattle.model.proofs.Storing.{stored-append, stored-length, rest-turn, rest-room, rest_end}
use Rattle.block.specs.Body.{later_bytes}
use Rattle.block.proofs.Bodies.{Turn, turn, piece, piece_size, later-end}
use Prim.Native.Nat.{ℕ, ◌+◌, ◌≤◌}
use native.Mathlib.Omega.{arith}
use mathlib.Core.List.{List, [], ◌∷◌}
use mathlib.Core.Logic.{◌⊎◌, inl, inr}
use mathlib.Core.Path.{◌≡◌, refl, ap, ◌∙◌}
use lib.ListN.{length}
use Rattle.block.proofs.body.put_later.Goals as goal

-- what comes next, of both runs
next : (d w : ℕ) (ds ss xs ys : List ℕ) → ds ≡ d ∷ xs → ss ≡ w ∷ ys → postings ds ss ≡ post d w ∷ postings xs ys
next d w ds ss xs ys e f = rw (e, f)

ended : (ds ss : List ℕ) → (ds ≡ []) ⊎ (ss ≡ []) → postings ds ss ≡ []
ended ds ss (inl e) = rw e
ended [] ss (inr f) = refl
ended (d ∷ ds) ss (inr f) = rw f

pub put_gap-j-requires : goal.put_gap-j-requires
put_gap-j-requires c =
    let l = c.loop-d in
    let n = c.next.new.self in
    let ps = postings (iter_rest (zip_first l.d-iterator)) (iter_rest (zip_second l.d-iterator)) in
    let qs = postings (iter_rest (zip_first n)) (iter_rest (zip_second n)) in
    let d = c.in-Some.field-0-0.now in
    let w = c.in-Some.field-0-1.now in
    let t : Turn l.p d w ps qs = turn l.p d w ps qs (next d w _ _ _ _ c.in-Some.ensures.steps.0 c.in-Some.ensures.steps.1) l.invariant.0 in
    let room : l.j + length (piece c.args.strip l.p d w) ≤ length l.out = rest-room (piece c.args.strip l.p d w) (later_bytes c.args.strip d qs) (t.bytes c.args.strip) l.invariant.1 c.requires.1 in
    (omega arith, omega (arith, room, piece_size c.args.strip l.p d w))

pub put_in_turn-j-requires : goal.put_in_turn-j-requires
put_in_turn-j-requires c =
    let l = c.loop-d in
    let n = c.next.new.self in
    let ps = postings (iter_rest (zip_first l.d-iterator)) (iter_rest (zip_second l.d-iterator)) in
    let qs = postings (iter_rest (zip_first n)) (iter_rest (zip_second n)) in
    let d = c.in-Some.field-0-0.now in
    let w = c.in-Some.field-0-1.now in
    let t : Turn l.p d w ps qs = turn l.p d w ps qs (next d w _ _ _ _ c.in-Some.ensures.steps.0 c.in-Some.ensures.steps.1) l.invariant.0 in
    let room : l.j + length (piece c.args.strip l.p d w) ≤ length l.out = rest-room (piece c.args.strip l.p d w) (later_bytes c.args.strip d qs) (t.bytes c.args.strip) l.invariant.1 c.requires.1 in
    omega (arith, room, piece_size c.args.strip l.p d w, stored-length c.put_gap-j.ensures, c.put_gap-j.ensures.past)

pub loop-d-preserved : goal.loop-d-preserved
loop-d-preserved c =
    let l = c.loop-d in
    let n = c.next.new.self in
    let ps = postings (iter_rest (zip_first l.d-iterator)) (iter_rest (zip_second l.d-iterator)) in
    let qs = postings (iter_rest (zip_first n)) (iter_rest (zip_second n)) in
    let d = c.in-Some.field-0-0.now in
    let w = c.in-Some.field-0-1.now in
    let t : Turn l.p d w ps qs = turn l.p d w ps qs (next d w _ _ _ _ c.in-Some.ensures.steps.0 c.in-Some.ensures.steps.1) l.invariant.0 in (
      t.rise,
      rest-turn (piece c.args.strip l.p d w) (later_bytes c.args.strip d qs) (t.bytes c.args.strip) l.invariant.1 (stored-append c.put_gap-j.ensures c.put_in_turn-j.ensures),
    )

pub returns : goal.returns
returns c =
    let l = c.loop-d in
    let e = ended _ _ (either_empty_from_Zip l.d-iterator c.next.new.self c.next.result c.in-None.is c.next.ensures.steps) in
    rest_end (ap (λ (ps : List Post). later_bytes c.args.strip l.p ps) e ∙ later-end c.args.strip l.p) l.invariant.1
