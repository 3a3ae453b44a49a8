-- Bodies as the writer makes them, posting by posting; round trips. Assumes nothing.
use Prim.Native.Nat.{ℕ, ◌+◌, ◌-◌, ◌*◌, ◌^◌, ◌≤◌, ◌<◌, max}
use native.Mathlib.Nat.{add-zero}
use native.Mathlib.Omega.{arith}
use mathlib.Core.Path.{◌≡◌, refl, sym, ap, ◌∙◌}
use mathlib.Core.List.{List, [], ◌∷◌, ◌++◌, append_assoc, append-nil}
use mathlib.Core.Bool.{Bool, true, false}
use borrow.Author.Tests.{le-leb, eq-eqb}
use lib.ListN.{length, get_or, take, drop, length-append}
use lib.Dec.{eqb}
use lib.Seq.{get_or-drop, take_at, drop_at, drop-append_seam, drop-append-add}
use Rattle.model.specs.Post.{Post, post, postings, Rising, Scored, last_doc, top_score, max_from}
use Rattle.model.proofs.Lists.{rest-none}
use Rattle.model.proofs.Storing.{part_end}
use Rattle.model.proofs.Posts.{from, from_cons, from_end, count_of, top_of, last_of, rising-last}
use Rattle.wire.specs.Read.{got}
use Rattle.wire.specs.Number.{be}
use Rattle.wire.specs.Gap.{gap_bytes, score}
use Rattle.wire.proofs.Numbers.{be-length}
use Rattle.wire.proofs.Gaps.{gap_round, score_round}
use Rattle.block.specs.Summary.{summary_of}
use Rattle.block.specs.Body.{is_strip, edge, score_in, wide, with_doc, gapped, posting, posts, fits, body_posts, right_body, body_run, in_turn, in_strip, later_bytes, front_bytes, back_bytes, body_bytes}
use Rattle.block.specs.Cursor.{fresh, posts_at, run_at}
use Rattle.block.specs.declared.summary.Summary.{Summary}
use Rattle.block.specs.declared.cursor.Cursor.{Cursor}
use Rattle.block.proofs.Contents.{score-on}

-- ---- the two layouts, by the tests that the code makes

pub strip-there : (s : List ℕ) (at : ℕ) → eqb (get_or s at 0) 4 ≡ is_strip (drop at s)
unfolding is_strip
strip-there s at = rw (get_or-drop at s 0 0, add-zero at)

pub strip-none : (s : List ℕ) (at : ℕ) → length s ≤ at → false ≡ is_strip (drop at s)
unfolding is_strip
strip-none s at h = rw (rest-none s at h)

module _ (strip : Bool) (n : ℕ) (s : List ℕ) where
  pub edge-plain : strip ≡ false → length s ≡ edge strip n s
  unfolding edge
  edge-plain e = rw e

  pub edge-strip : strip ≡ true → length s - 2 * n ≡ edge strip n s
  unfolding edge
  edge-strip e = rw e

-- ---- a body's two runs

abbrev pub front : Summary → List ℕ → List ℕ
front m s = take (edge m.strip m.count s) s

abbrev pub back : Summary → List ℕ → List ℕ
back m s = drop (edge m.strip m.count s) s

-- the judgement starts at a fresh cursor
pub right-fresh : (m : Summary) (s : List ℕ) → right_body m s ≡ fits m.greatest m.top 0 0 (posts_at (front m s) (back m s) (fresh m))
unfolding right_body body_posts posts_at fresh
right-fresh m s = refl

pub run-fresh : (m : Summary) (s : List ℕ) → body_run m s ≡ run_at (front m s) (back m s) (fresh m)
unfolding body_run run_at fresh
run-fresh m s = refl

-- the two runs as the code has them, and the judgement of them
module _ (m : Summary) (s : List ℕ) (e : ℕ) (q : e ≡ edge m.strip m.count s) where
  pub front_of : take (e - 0) s ≡ front m s
  front_of = let z : e - 0 ≡ edge m.strip m.count s = omega (arith, q) in ap (λ (n : ℕ). take n s) z

  pub back_of : take (length s - e) (drop e s) ≡ back m s
  back_of = part_end e s ∙ ap (λ (n : ℕ). drop n s) q

  pub right-start : (b : Cursor) → b ≡ fresh m → right_body m s ≡ fits m.greatest m.top 0 0 (posts_at (take (e - 0) s) (take (length s - e) (drop e s)) b)
  right-start b f = rw (front_of, back_of, f) (right-fresh m s)

-- ---- what a turn of the writer's loop needs of the posting that comes next, after docid p

-- the bytes that it puts into the first run
abbrev pub piece : Bool → (p : ℕ) → (d w : ℕ) → List ℕ
piece strip p d w = gap_bytes (d - p - 1) ++ in_turn strip w

-- docid d with score w comes first of `ps`, and `qs` are the others
pub record Turn (p d w : ℕ) (ps qs : List Post) : Type 0 where
  pub above : p < d
  pub rise : Rising d qs
  pub bytes : (strip : Bool) → later_bytes strip p ps ≡ piece strip p d w ++ later_bytes strip d qs

pub turn : (p d w : ℕ) (ps qs : List Post) → ps ≡ post d w ∷ qs → Rising p ps → Turn p d w ps qs
unfolding later_bytes
turn p d w ps qs q r =
    let r1 : Rising p (post d w ∷ qs) = rw q at r in
    record {
      above = r1.0;
      rise = r1.1;
      bytes = λ strip. rw q (sym (append_assoc (gap_bytes (d - p - 1)) (in_turn strip w) (later_bytes strip d qs)));
    }

-- a strip's next score
pub back_turn : (strip : Bool) (i : ℕ) (ds ss : List ℕ) → strip ≡ true → length ds ≡ length ss → i < length ds →
    back_bytes strip (from i ds ss) ≡ be 2 (get_or ss i 0) ++ back_bytes strip (from (i + 1) ds ss)
unfolding back_bytes
back_turn strip i ds ss t e h = rw (t, from_cons i ds ss e h)

pub piece_size : (strip : Bool) (p d w : ℕ) → length (piece strip p d w) ≡ length (gap_bytes (d - p - 1)) + length (in_turn strip w)
piece_size strip p d w = length-append (gap_bytes (d - p - 1)) (in_turn strip w)

pub later-end : (strip : Bool) (p : ℕ) → later_bytes strip p [] ≡ []
unfolding later_bytes
later-end strip p = refl

pub later-none : (strip : Bool) (p i : ℕ) (ds ss : List ℕ) → length ds ≤ i → later_bytes strip p (from i ds ss) ≡ []
unfolding later_bytes
later-none strip p i ds ss h = rw (from_end i ds ss h)

pub back_none : (strip : Bool) (i : ℕ) (ds ss : List ℕ) → length ds ≤ i → back_bytes strip (from i ds ss) ≡ []
unfolding back_bytes
back_none strip i ds ss h = rw (from_end i ds ss h)

-- only a strip has a second run
pub back_plain : (ps : List Post) → back_bytes false ps ≡ []
unfolding back_bytes
back_plain [] = refl
back_plain (p ∷ ps) = back_plain ps

-- the first posting, and the rest, and the second run
pub body_cons : (strip : Bool) (ds ss : List ℕ) → length ds ≡ length ss → 0 < length ds →
    body_bytes strip (postings ds ss) ≡ (in_turn strip (get_or ss 0 0) ++ later_bytes strip (get_or ds 0 0) (from 1 ds ss)) ++ back_bytes strip (postings ds ss)
unfolding body_bytes front_bytes
body_cons strip [] ss e h = absurd (omega arith)
body_cons strip (d ∷ ds) [] e h = absurd (omega arith)
body_cons strip (d ∷ ds) (s ∷ ss) e h = refl

pub body-parts : (strip : Bool) (ds ss : List ℕ) → length ds ≡ length ss → 0 < length ds →
    length (body_bytes strip (postings ds ss))
    ≡ length (in_turn strip (get_or ss 0 0)) + length (later_bytes strip (get_or ds 0 0) (from 1 ds ss)) + length (back_bytes strip (postings ds ss))
body-parts strip ds ss e h =
    let a = in_turn strip (get_or ss 0 0) in
    let b = later_bytes strip (get_or ds 0 0) (from 1 ds ss) in
    let d = back_bytes strip (postings ds ss) in
    omega (arith, ap length (body_cons strip ds ss e h), length-append (a ++ b) d, length-append a b)

-- ---- its length, which is the same in both layouts

-- two for each score, wherever it stands
later-even : (d : ℕ) (ps : List Post) → length (later_bytes true d ps) + length (back_bytes true ps) ≡ length (later_bytes false d ps)
unfolding later_bytes back_bytes
later-even d [] = refl
later-even d (p ∷ ps) =
    let g = gap_bytes (p.doc - d - 1) in
    omega (
      arith,
      later-even p.doc ps,
      length-append g (later_bytes true p.doc ps),
      length-append (be 2 p.score) (back_bytes true ps),
      length-append g (be 2 p.score ++ later_bytes false p.doc ps),
      length-append (be 2 p.score) (later_bytes false p.doc ps),
    )

front-even : (ps : List Post) → length (front_bytes true ps) + length (back_bytes true ps) ≡ length (front_bytes false ps)
unfolding front_bytes back_bytes
front-even [] = refl
front-even (p ∷ ps) =
    omega (
      arith,
      later-even p.doc ps,
      length-append (be 2 p.score) (back_bytes true ps),
      length-append (be 2 p.score) (later_bytes false p.doc ps),
    )

pub body-even : (strip : Bool) (ps : List Post) → length (body_bytes strip ps) ≡ length (front_bytes false ps)
unfolding body_bytes
body-even true ps = length-append (front_bytes true ps) (back_bytes true ps) ∙ front-even ps
body-even false ps = rw (back_plain ps, append-nil (front_bytes false ps))

pub body-size : (ds ss : List ℕ) → length ds ≡ length ss → 0 < length ds → length (front_bytes false (postings ds ss)) ≡ 2 + length (later_bytes false (get_or ds 0 0) (from 1 ds ss))
unfolding front_bytes
body-size [] ss e h = absurd (omega arith)
body-size (d ∷ ds) [] e h = absurd (omega arith)
body-size (d ∷ ds) (s ∷ ss) e h = length-append (be 2 s) (later_bytes false d (postings ds ss)) ∙ ap (λ (n : ℕ). n + length (later_bytes false d (postings ds ss))) (be-length 2 s)

pub turn-size : (p d w : ℕ) (ps qs : List Post) → Turn p d w ps qs → length (later_bytes false p ps) ≡ length (gap_bytes (d - p - 1)) + 2 + length (later_bytes false d qs)
turn-size p d w ps qs t =
    omega (
      arith,
      ap length (t.bytes false),
      length-append (piece false p d w) (later_bytes false d qs),
      piece_size false p d w,
      be-length 2 w,
    )

-- ---- the summary of two runs

pub summary-of : (strip : Bool) (ds ss : List ℕ) → length ds ≡ length ss → 0 < length ds →
    summary_of strip (postings ds ss) ≡ record { least = get_or ds 0 0; greatest = get_or ds (length ds - 1) 0; top = max_from 0 ss; count = length ds; strip = strip }
summary-of strip [] ss e h = absurd (omega arith)
summary-of strip (d ∷ ds) [] e h = absurd (omega arith)
summary-of strip (d ∷ ds) (s ∷ ss) e h =
    let a = last_of 0 (d ∷ ds) (s ∷ ss) e h in
    let b = top_of 0 (d ∷ ds) (s ∷ ss) e in
    let c = count_of (d ∷ ds) (s ∷ ss) e in
    λ i. record { least = d; greatest = a i; top = b i; count = c i; strip = strip }

-- ---- what is written is read back

-- a score, wherever it stands: in what follows it in the first run, or at the front of the second
score_round_in : (strip : Bool) (d w : ℕ) (g s : List ℕ) → 0 < w → w < 65536 →
    with_doc strip d (score (score_in strip 0 (in_turn strip w ++ g) (in_strip strip w ++ s))) ≡ got (post d w) (length (in_turn strip w))
score_round_in true d w g s p h = rw (score_round w s p h)
score_round_in false d w g s p h = rw (score_round w g p h, be-length 2 w)

-- past it
past-turn : (strip : Bool) (w : ℕ) (g : List ℕ) → drop (length (in_turn strip w)) (in_turn strip w ++ g) ≡ g
past-turn true w g = refl
past-turn false w g = drop_at (be 2 w) g (length (be 2 w)) refl

past-strip : (strip : Bool) (w : ℕ) (s : List ℕ) → drop (wide strip) (in_strip strip w ++ s) ≡ s
past-strip true w s = drop_at (be 2 w) s 2 (be-length 2 w)
past-strip false w s = refl

-- the postings after docid d, none above the greatest, which fits four bytes of a gap
one_round : (strip : Bool) (greatest d e w : ℕ) (g s : List ℕ) → d < e → e ≤ greatest → greatest < 128 ^ 4 → 0 < w → w ≤ 65535 →
    posting strip greatest false d (gap_bytes (e - d - 1) ++ (in_turn strip w ++ g)) (in_strip strip w ++ s) ≡ got (post e w) (length (gap_bytes (e - d - 1)) + length (in_turn strip w))
unfolding posting gapped
one_round strip greatest d e w g s lt le small p h =
    let sum : d + 1 + (e - d - 1) ≡ e = omega arith in
    let x = gap_bytes (e - d - 1) in
    let on : score_in strip (length x) (x ++ (in_turn strip w ++ g)) (in_strip strip w ++ s) ≡ score_in strip 0 (in_turn strip w ++ g) (in_strip strip w ++ s) = score-on strip (length x) (x ++ (in_turn strip w ++ g)) (in_strip strip w ++ s) ∙ rw (drop-append_seam x (in_turn strip w ++ g)) in
    rw (
      gap_round 4 (e - d - 1) (in_turn strip w ++ g) (omega arith) (omega arith) (omega arith),
      sum,
      le-leb e greatest le,
      on,
      score_round_in strip e w g s p (omega arith),
    )

past_one : (strip : Bool) (x g : List ℕ) (w : ℕ) → drop (length x + length (in_turn strip w)) (x ++ (in_turn strip w ++ g)) ≡ g
past_one strip x g w = drop-append-add x (in_turn strip w ++ g) (length (in_turn strip w)) ∙ past-turn strip w g

pub later_round : (strip : Bool) (greatest d : ℕ) (ps : List Post) → greatest < 128 ^ 4 → Rising d ps → Scored ps → last_doc d ps ≤ greatest →
    posts strip greatest (length ps) false d (later_bytes strip d ps) (back_bytes strip ps) ≡ got ps (length (later_bytes strip d ps))
unfolding posts later_bytes back_bytes
later_round strip greatest d [] small r s le = refl
later_round strip greatest d (p ∷ ps) small r s le =
    let rest = later_bytes strip p.doc ps in
    let g = gap_bytes (p.doc - d - 1) in
    let under : p.doc ≤ greatest = omega (arith, rising-last p.doc ps r.1) in
    let n : length (g ++ (in_turn strip p.score ++ rest)) ≡ length g + length (in_turn strip p.score) + length rest = omega (arith, length-append g (in_turn strip p.score ++ rest), length-append (in_turn strip p.score) rest) in
    rw (
      one_round strip greatest d p.doc p.score rest (back_bytes strip ps) r.0 under small s.0.0 s.0.1,
      past_one strip g rest p.score,
      past-strip strip p.score (back_bytes strip ps),
      later_round strip greatest p.doc ps small r.1 s.1 le,
      n,
    )

-- ---- a body's two runs, as they were written

back_length : (ps : List Post) → length (back_bytes true ps) ≡ 2 * length ps
unfolding back_bytes
back_length [] = refl
back_length (p ∷ ps) = omega (arith, length-append (be 2 p.score) (back_bytes true ps), be-length 2 p.score, back_length ps)

pub edge-written : (strip : Bool) (ps : List Post) → edge strip (length ps) (body_bytes strip ps) ≡ length (front_bytes strip ps)
unfolding edge body_bytes
edge-written true ps = omega (arith, length-append (front_bytes true ps) (back_bytes true ps), back_length ps)
edge-written false ps = rw (back_plain ps, append-nil (front_bytes false ps))

pub body_round : (strip : Bool) (p : Post) (ps : List Post) → last_doc p.doc ps < 128 ^ 4 → Rising p.doc ps → Scored (p ∷ ps) →
    body_posts (summary_of strip (p ∷ ps)) (body_bytes strip (p ∷ ps)) ≡ got (p ∷ ps) (length (front_bytes strip (p ∷ ps)))
unfolding body_posts body_bytes front_bytes back_bytes posts posting
body_round strip p ps small r s =
    let rest = later_bytes strip p.doc ps in
    let n : length (in_turn strip p.score ++ rest) ≡ length (in_turn strip p.score) + length rest = length-append (in_turn strip p.score) rest in
    rw (
      edge-written strip (p ∷ ps),
      take_at (in_turn strip p.score ++ rest) (in_strip strip p.score ++ back_bytes strip ps) (length (in_turn strip p.score ++ rest)) refl,
      drop_at (in_turn strip p.score ++ rest) (in_strip strip p.score ++ back_bytes strip ps) (length (in_turn strip p.score ++ rest)) refl,
      score_round_in strip p.doc p.score rest (back_bytes strip ps) s.0.0 (omega (arith, s.0.1)),
      past-turn strip p.score rest,
      past-strip strip p.score (back_bytes strip ps),
      later_round strip (last_doc p.doc ps) p.doc ps small r s.1 (omega arith),
      n,
    )

pub right_round : (strip : Bool) (p : Post) (ps : List Post) → last_doc p.doc ps < 128 ^ 4 → Rising p.doc ps → Scored (p ∷ ps) →
    right_body (summary_of strip (p ∷ ps)) (body_bytes strip (p ∷ ps)) ≡ true
unfolding right_body
right_round strip p ps small r s =
    rw (
      body_round strip p ps small r s,
      eq-eqb (last_doc p.doc ps) (last_doc p.doc ps) refl,
      eq-eqb (top_score (max 0 p.score) ps) (top_score (max 0 p.score) ps) refl,
    )
