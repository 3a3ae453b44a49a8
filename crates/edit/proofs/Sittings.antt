-- What the seat of a term in a sound shelf gives the code: its postings may be written again, and its bytes lie in the shelf. Assumes nothing.
use Prim.Native.Nat.{ℕ, zero, suc, ◌-◌, ◌≤◌, ◌<◌}
use native.Mathlib.Omega.{arith}
use mathlib.Core.Path.{◌≡◌, refl, sym, ap, subst, ◌∙◌}
use mathlib.Core.List.{List, [], ◌∷◌}
use mathlib.Core.Bool.{true, false}
use borrow.Author.Tests.{ltb-true, le-ltb, eqb-true}
use lib.Dec.{ltb, eqb}
use lib.ListN.{length, take, drop}
use lib.Seq.{length-take-le}
use Rattle.model.specs.Limits.{max_postings, max_shelf}
use Rattle.model.specs.Outcome.{Outcome, refused, done}
use Rattle.model.specs.Post.{Post, postings, docs, Rising}
use Rattle.model.specs.Runs.{has, Bytes}
use Rattle.model.proofs.Lists.{split}
use Rattle.shelf.specs.Walk.{Listing, posts_of, blocks_at, blocks_of}
use Rattle.shelf.specs.Check.{checked}
use Rattle.list.specs.Write.{Writable}
use Rattle.list.specs.Answer.{Gives}
use Rattle.std.specs.Prelude.{Result}
use Rattle.model.specs.declared.refusal.Refusal.{Refusal}
use Rattle.list.proofs.Pours.{right-count}
use Rattle.change.specs.Edits.{Set, Clear, set_post, clear_post}
use Rattle.change.specs.Bytes.{pieces, in_range, settled}
use Rattle.change.specs.Runs.{Clears, Insertable, Inserts}
use Rattle.change.specs.Seat.{Sounds, seat_of, held_by, Fills, Held, seat_at, seat_next, placed, Stood, Placeable, May, Wide}
use Rattle.change.specs.declared.seat.Seat.{Seat}
use Rattle.change.specs.declared.seat.Seat.TheVariants.{Taken, Free}
use Rattle.change.proofs.Postings.{Fit, may-fit, one-fit, set-fit, clear-fit, clear_absent, clear-length, clear-same, clear-fewer, clear-rise}
use Rattle.change.proofs.Runnings.{Runs, runs-front, runs-length, holds-length, clears_runs, runs_insertable, inserts_runs, rising-free, set_first}
use Rattle.change.proofs.News.{held-runs}
use Rattle.change.proofs.Pieces.{checked-sound}
use Rattle.edit.proofs.Changes.{set_ranged}
use Rattle.edit.proofs.Splices.{seat_taken, seat_free, settled-set, settled-clear}

-- ---- postings with one taken out and put in again

clear_gone : (d : ℕ) (ps : List Post) → has d (docs (clear_post d ps)) ≡ false
clear_gone d [] = refl
clear_gone d (p ∷ ps) = split (eqb d p.doc) (λ e. rw e (clear_gone d ps)) (λ e. rw (e, e) (clear_gone d ps))

set-cleared : (n d w : ℕ) (ps : List Post) → Rising n ps → set_post d w (clear_post d ps) ≡ set_post d w ps
set-cleared n d w [] r = refl
set-cleared n d w (p ∷ ps) r =
    split (eqb d p.doc)
    (λ e.
    let q : d ≡ p.doc = eqb-true _ _ e in
    let up : Rising d ps = rw q r.1 in
    rw (e, clear_absent d ps (rising-free d d ps (omega arith) up), le-ltb d p.doc (omega arith)) (set_first d w ps up))
    (λ e. split (ltb d p.doc)
    (λ l. rw (e, l, clear_absent d ps (rising-free p.doc d ps (omega (arith, ltb-true d p.doc l)) r.1)))
    (λ l. rw (e, l, e) (ap {B = List Post} (λ t. p ∷ t) (set-cleared p.doc d w ps r.1))))

-- ---- a seat

-- the postings of a seat's list: none, or such as may be written
pub record Sits (s : List ℕ) (seat : Seat) : Type 0 where
  pub sound : Sounds s
  pub rise : Rising 0 (held_by s seat)
  pub few : length (held_by s seat) ≤ max_postings
  pub fit : 0 < length (held_by s seat) → Fit (held_by s seat)
  pub fills : (d w : ℕ) → max_postings ≤ d → max_postings ≤ w → Fills s seat d w
  pub order : seat_at seat ≤ seat_next seat
  pub inside : seat_next seat ≤ length s
  pub short : length s ≤ max_shelf
  pub stood : Stood seat

-- a list that has postings has blocks
pub count-some : (s : List ℕ) (at n : ℕ) → 0 < length (posts_of (blocks_at s at n)) → 0 < n
unfolding blocks_at blocks_of
count-some s at zero h = h
count-some s at (suc n) h = omega arith

pub sits : (s : List ℕ) (ls : List Listing) → Bytes s → checked s ≡ done ls → (t : ℕ) (seat : Seat) → seat ≡ seat_of t 0 ls → Sits s seat
sits s ls b e t (Taken p) q =
    let k = seat_taken s ls b e t p (sym q) in
    let n = right-count (blocks_at s p.at p.count) k.right in
    record {
      sound = rw e;
      rise = k.may.rise;
      few = k.may.few;
      fit = λ h. may-fit (posts_of (blocks_at s p.at p.count)) k.may;
      fills = λ d w l m. record { ready = k.ready; right = k.right; roomy = omega (arith, k.may.few); wide = omega (arith, k.may.few) };
      order = k.order;
      inside = k.inside;
      short = (checked-sound s ls e).short;
      stood = (count-some s p.at p.count k.may.some, omega (arith, k.ready.room, (checked-sound s ls e).short));
    }
sits s ls b e t (Free a) q =
    let k = seat_free s ls b e t a (sym q) in
    record {
      sound = rw e;
      rise = tt;
      few = omega arith;
      fit = λ (h : 0 < 0). absurd (omega arith);
      fills = λ d w l m. tt;
      order = omega arith;
      inside = k.inside;
      short = (checked-sound s ls e).short;
      stood = tt;
    }

-- ---- the runs that are packed anew

-- the first k of a run, as the code lends them
abbrev pub firsts : ℕ → List ℕ → List ℕ
firsts k l = take (k - 0) (drop 0 l)

firsts-take : (k : ℕ) (l : List ℕ) → firsts k l ≡ take k l
firsts-take k l = let z : k - 0 ≡ k = omega arith in rw z

pub runs-postings : (ds ss : List ℕ) (k : ℕ) (ps : List Post) → Runs ds ss k ps → postings (firsts k ds) (firsts k ss) ≡ ps
runs-postings ds ss k ps r = rw (firsts-take k ds, firsts-take k ss) (runs-front ds ss k ps r)

pub runs-may : (ds ss : List ℕ) (k : ℕ) (ps : List Post) → Runs ds ss k ps → (0 < length ps → Writable ps) → May (firsts k ds) (firsts k ss)
runs-may ds ss k ps r f =
    let ld : length (firsts k ds) ≡ k = ap length (firsts-take k ds) ∙ length-take-le k ds r.roomy in
    let lw : length (firsts k ss) ≡ k = ap length (firsts-take k ss) ∙ length-take-le k ss r.wide in
    let n = runs-length ds ss k ps r in
    record { same = ld ∙ sym lw; may = λ none. rw (runs-postings ds ss k ps r) (f (omega arith)) }

pub runs_placeable : (s : List ℕ) (seat : Seat) (ds ss : List ℕ) (k : ℕ) (ps : List Post) → Sits s seat → Runs ds ss k ps → (0 < length ps → Fit ps) → Placeable s seat (firsts k ds) (firsts k ss)
runs_placeable s seat ds ss k ps z r f =
    let ld : length (firsts k ds) ≡ k = ap length (firsts-take k ds) ∙ length-take-le k ds r.roomy in
    let lw : length (firsts k ss) ≡ k = ap length (firsts-take k ss) ∙ length-take-le k ss r.wide in
    let n = runs-length ds ss k ps r in
    record {
      sound = z.sound;
      stood = z.stood;
      short = z.short;
      order = z.order;
      inside = z.inside;
      same = ld ∙ sym lw;
      may = λ few. record {
        same = ld ∙ sym lw;
        may = λ none.
            let fit = f (omega arith) in
            rw (runs-postings ds ss k ps r) (record { some = fit.some; few = omega arith; rise = fit.rise; scores = fit.scores; last = fit.last });
      };
    }

module _ (s : List ℕ) (seat : Seat) (z : Sits s seat) (d : ℕ) where
  -- after a clear
  pub cleared-fit : 0 < length (clear_post d (held_by s seat)) → Fit (clear_post d (held_by s seat))
  cleared-fit h = clear-fit d (held_by s seat) (z.fit (omega (arith, clear-length d (held_by s seat)))) h

  pub cleared-few : (ds ss : List ℕ) (m : ℕ) → Runs ds ss m (clear_post d (held_by s seat)) → m ≤ max_postings
  cleared-few ds ss m r = omega (arith, runs-length ds ss m (clear_post d (held_by s seat)) r, clear-length d (held_by s seat), z.few)

  -- after a set
  pub set_runs : (w : ℕ) (ds ss : List ℕ) (k : ℕ) → Runs ds ss k (set_post d w (clear_post d (held_by s seat))) → Runs ds ss k (set_post d w (held_by s seat))
  set_runs w ds ss k r = subst (λ (x : List Post). Runs ds ss k x) (set-cleared 0 d w (held_by s seat) z.rise) r

  pub set-fits : (t w : ℕ) → in_range (Set t d w) ≡ true → Fit (set_post d w (held_by s seat))
  set-fits t w g = go (held_by s seat) z.fit
    where
      go : (ps : List Post) → (0 < length ps → Fit ps) → Fit (set_post d w ps)
      go [] f = one-fit d w (set_ranged t d w g)
      go (p ∷ ps) f = set-fit d w (p ∷ ps) (set_ranged t d w g) (f (omega arith))

  pub rise-cleared : Rising 0 (clear_post d (held_by s seat))
  rise-cleared = clear-rise 0 d (held_by s seat) z.rise

  pub free-cleared : has d (docs (clear_post d (held_by s seat))) ≡ false
  free-cleared = clear_gone d (held_by s seat)

-- ---- the code's runs, call by call

-- a held list leaves room to take a docid out of it
pub without-room : {s : List ℕ} {seat : Seat} {n : ℕ} {ds ss d1 s1 : List ℕ} → Held s seat ds ss n d1 s1 → (n ≤ length d1) × (n ≤ length s1)
without-room h = let r = held-runs h in (r.roomy, r.wide)

pub clear-chain : {s : List ℕ} {seat : Seat} {d n m : ℕ} {ds ss d1 s1 d2 s2 : List ℕ} → Held s seat ds ss n d1 s1 → Clears d n d1 s1 m d2 s2 → Runs d2 s2 m (clear_post d (held_by s seat))
clear-chain h c = clears_runs (held-runs h) c

-- and then to put it in again
pub set_insertable : {s : List ℕ} {seat : Seat} {d n m : ℕ} {ds ss d1 s1 d2 s2 : List ℕ} → Sits s seat → Wide ds ss → Held s seat ds ss n d1 s1 → Clears d n d1 s1 m d2 s2 → Insertable d m d2 s2
set_insertable {s} {seat} {d} {n} {m} {ds} {ss} {d1} {s1} {d2} {s2} z w h c =
    let r = clear-chain h c in
    let held : n ≤ max_postings = omega (arith, z.few, runs-length d1 s1 n (held_by s seat) (held-runs h)) in
    let few = cleared-few s seat z d d2 s2 m r in
    let ld : length d1 ≡ length ds = holds-length h.docids (omega (arith, w.docids)) in
    let lw : length s1 ≡ length ss = holds-length h.scored (omega (arith, w.scored)) in
    runs_insertable r
    (omega (arith, w.docids, ld, holds-length c.docids (omega (arith, w.docids))))
    (omega (arith, w.scored, lw, holds-length c.scored (omega (arith, w.scored))))
    (rise-cleared s seat z d) (free-cleared s seat z d)

pub set-chain : {s : List ℕ} {seat : Seat} {d w n m k : ℕ} {ds ss d1 s1 d2 s2 d3 s3 : List ℕ} → Sits s seat → Held s seat ds ss n d1 s1 → Clears d n d1 s1 m d2 s2 → Inserts d w m d2 s2 k d3 s3 → Runs d3 s3 k (set_post d w (held_by s seat))
set-chain {s} {seat} {d} {w} {n} {m} {k} {ds} {ss} {d1} {s1} {d2} {s2} {d3} {s3} z h c i = set_runs s seat z d w d3 s3 k (inserts_runs (clear-chain h c) i)

-- ---- from what was placed to the edit

module _ (s : List ℕ) (ls : List Listing) (b : Bytes s) (e : checked s ≡ done ls) (t d : ℕ) (seat : Seat) (q : seat ≡ seat_of t 0 ls) where
  pub set_gives : (w k room : ℕ) (ds ss l m : List ℕ) (a : Result ℕ Refusal) → Runs ds ss k (set_post d w (held_by s seat)) →
      Gives (placed s (length ls) seat t (postings (firsts k ds) (firsts k ss)) room) l m a → Gives (settled (Set t d w) (pieces s ls) room) l m a
  set_gives w k room ds ss l m a r g =
      subst (λ (o : Outcome (List ℕ)). Gives o l m a)
      (ap (λ (x : List Post). placed s (length ls) seat t x room) (runs-postings ds ss k (set_post d w (held_by s seat)) r) ∙ sym (settled-set s ls b e t d room w seat q)) g

  module _ (n k : ℕ) (ds ss d1 s1 : List ℕ) (held : Runs d1 s1 n (held_by s seat)) (r : Runs ds ss k (clear_post d (held_by s seat))) where
    clear-count : length (held_by s seat) ≡ n
    clear-count = runs-length d1 s1 n (held_by s seat) held

    left-count : length (clear_post d (held_by s seat)) ≡ k
    left-count = runs-length ds ss k (clear_post d (held_by s seat)) r

    pub clear_refuses : (room : ℕ) → k ≡ n → settled (Clear t d) (pieces s ls) room ≡ refused 12 0
    clear_refuses room z =
        let h : has d (docs (held_by s seat)) ≡ false = clear-same d (held_by s seat) (omega (arith, clear-count, left-count)) in
        settled-clear s ls b e t d room seat q ∙ rw h

    pub clear-gives : (room : ℕ) (l m : List ℕ) (a : Result ℕ Refusal) → (k ≡ n → ⊥) →
        Gives (placed s (length ls) seat t (postings (firsts k ds) (firsts k ss)) room) l m a → Gives (settled (Clear t d) (pieces s ls) room) l m a
    clear-gives room l m a z g =
        let h : has d (docs (held_by s seat)) ≡ true = clear-fewer d (held_by s seat) (λ (y : length (clear_post d (held_by s seat)) ≡ length (held_by s seat)). z (omega (arith, clear-count, left-count))) in
        let same : placed s (length ls) seat t (clear_post d (held_by s seat)) room ≡ settled (Clear t d) (pieces s ls) room = sym (settled-clear s ls b e t d room seat q ∙ rw h) in
        subst (λ (o : Outcome (List ℕ)). Gives o l m a)
        (ap (λ (x : List Post). placed s (length ls) seat t x room) (runs-postings ds ss k (clear_post d (held_by s seat)) r) ∙ same) g
