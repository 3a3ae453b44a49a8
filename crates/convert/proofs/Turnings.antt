-- One body turned, and the loop over a list's blocks that writes each body over at its place. Assumes nothing.
use Prim.Native.Nat.{ℕ, zero, suc, ◌+◌, ◌-◌, ◌*◌, ◌≤◌, ◌<◌}
use native.Mathlib.Omega.{arith}
use mathlib.Core.Path.{◌≡◌, refl, sym, ap, ap₂, subst, ◌∙◌}
use mathlib.Core.List.{List, [], ◌∷◌, ◌++◌}
use mathlib.Core.Bool.{Bool, not}
use lib.ListN.{length, take, drop, length-drop}
use lib.Seq.{sets, length-sets, length-take-le, take_at}
use Rattle.model.specs.Limits.{per_block}
use Rattle.model.specs.Outcome.{refused, done}
use Rattle.model.specs.Post.{Post, postings, docs, scores, Rising, Even}
use Rattle.model.specs.Runs.{All, Stored, Bytes}
use Rattle.model.proofs.Lists.{split, map-length, bytes_drop, bytes_take}
use Rattle.model.proofs.Storing.{Rest, rest-start, rest-turn, rest_end, sets-front, stored_as}
use Rattle.wire.specs.Field.{whole, field_len, field_value, field_bytes}
use Rattle.wire.proofs.Fields.{field-size, value-length}
use Rattle.block.specs.Body.{is_strip, tag_of, body_posts, body_run, body_bytes, ReadsInto}
use Rattle.block.specs.Summary.{sum_of}
use Rattle.block.specs.declared.summary.Summary.{Summary}
use Rattle.block.proofs.Bodies.{body-even}
use Rattle.block.proofs.Contents.{Right, right-body, right-run, run-all}
use Rattle.shelf.specs.Walk.{Block, read_or, strip_of, one_body, bodies_of, blocks_of, blocks_at}
use Rattle.shelf.specs.Check.{bad_body}
use Rattle.shelf.specs.Blocks.{reading_of, blocks_left, Rests, Finds}
use Rattle.shelf.specs.declared.walk.Place.{Place}
use Rattle.std.specs.Prelude.{None}
use Rattle.shelf.specs.declared.blocks.Reading.{Reading}
use Rattle.shelf.proofs.Walks.{strip-is}
use Rattle.shelf.proofs.Readings.{start-rests, start_left_lem}
use Rattle.list.specs.Write.{bodies_bytes}
use Rattle.list.proofs.Pours.{right-more}
use Rattle.change.proofs.Runnings.{Runs, runs-front}
use Rattle.convert.specs.Convert.{chunks_of, turned_bodies, Fit, Turns, Turnable}

-- ---- one body

module _ (m : Summary) (v : List ℕ) (h : Bytes v) (t : Turns m v) where
  right : Right m v
  right = right-body m v h t.fit.some t.right

  run-own : body_run m v ≡ right.posts
  run-own = run-all m v right.posts right.taken right.reads

  -- what is read into a run is its postings, as many as the summary says, which rise
  pub run_is : read_or (body_posts m v) ≡ body_run m v
  run_is = ap read_or (right-run m v t.right).1

  pub run-count : length (body_run m v) ≡ m.count
  run-count = (right-run m v t.right).2

  run-rise : Rising 0 (body_run m v)
  run-rise = rw run-own (right.whole.rise 0 t.fit.above)

  -- in either layout they take the body's bytes
  pub run-size : (strip : Bool) → length (body_bytes strip (body_run m v)) ≡ length v
  run-size strip =
      ap (λ (ps : List Post). length (body_bytes strip ps)) run-own
      ∙ omega (arith, body-even strip right.posts, body-even m.strip right.posts, ap length right.whole.bytes)

  module _ (ds ss ds' ss' : List ℕ) (r : Bool) (w : ReadsInto m v 0 ds ss ds' ss' r) (roomy : m.count ≤ length ds) (wide : m.count ≤ length ss) where
    read-runs : Runs ds' ss' m.count (body_run m v)
    read-runs =
        let d : length (docs (body_run m v)) ≡ m.count = map-length (λ (p : Post). p.doc) (body_run m v) ∙ run-count in
        let x : length (scores (body_run m v)) ≡ m.count = map-length (λ (p : Post). p.score) (body_run m v) ∙ run-count in
        record {
          roomy = omega (arith, ap length w.docids, length-sets ds 0 (docs (body_run m v)));
          wide = omega (arith, ap length w.scored, length-sets ss 0 (scores (body_run m v)));
          docids = rw (w.docids, sets-front ds (docs (body_run m v)) (omega arith)) (take_at (docs (body_run m v)) (drop (length (docs (body_run m v))) ds) m.count d);
          scored = rw (w.scored, sets-front ss (scores (body_run m v)) (omega arith)) (take_at (scores (body_run m v)) (drop (length (scores (body_run m v))) ss) m.count x);
        }

    -- the runs as the code lends them
    abbrev lent : ℕ → List ℕ → List ℕ
    lent n l = take (n - 0) (drop 0 l)

    pub lent-posts : postings (lent m.count ds') (lent m.count ss') ≡ body_run m v
    lent-posts = let z : m.count - 0 ≡ m.count = omega arith in rw z (runs-front ds' ss' m.count (body_run m v) read-runs)

    pub lent_writable : (strip : Bool) (at room : ℕ) → at + 3 + length v ≤ room →
        (0 < length (lent m.count ds')) × (length (lent m.count ds') ≤ per_block) × Even 0 (lent m.count ds') (lent m.count ss')
        × (at + length (field_bytes (tag_of strip) (body_bytes strip (postings (lent m.count ds') (lent m.count ss')))) ≤ room)
    lent_writable strip at room k =
        let ld : length (lent m.count ds') ≡ m.count = length-take-le (m.count - 0) ds' (omega (arith, read-runs.roomy)) ∙ omega arith in
        let lw : length (lent m.count ss') ≡ m.count = length-take-le (m.count - 0) ss' (omega (arith, read-runs.wide)) ∙ omega arith in
        let z : length (field_bytes (tag_of strip) (body_bytes strip (body_run m v))) ≡ 3 + length v = omega (arith, field-size (tag_of strip) (body_bytes strip (body_run m v)), run-size strip) in
        (omega (arith, t.fit.some), omega (arith, t.fit.few), record { same = ld ∙ sym lw; rise = rw lent-posts run-rise }, rw lent-posts (omega arith))

-- ---- the blocks of a list, as their bodies lie: one layout, one after the other from place j on, each right

abbrev pub Laid : Bool → ℕ → List Block → Type 0
Laid strip j [] = Unit {0}
Laid strip j (b ∷ bs) = (b.sum.strip ≡ strip) × (b.body_at ≡ j) × Turns b.sum b.body × Laid strip (j + (3 + length b.body)) bs

laid : (strip : Bool) (n a b e : ℕ) (m s : List ℕ) → bodies_of strip n b s ≡ done e → All (λ (x : Block). Fit x.sum) (blocks_of n a m b s) → bad_body (blocks_of n a m b s) ≡ None → Laid strip b (blocks_of n a m b s)
unfolding bodies_of one_body blocks_of sum_of
laid strip zero a b e m s q f r = tt
laid strip (suc n) a b e m s q f r =
    split (whole (tag_of strip) s)
    (λ w.
    let k = 3 + field_len s in
    let o = right-more (record { at = a; sum = sum_of (is_strip s) m; body_at = b; body = field_value s }) (blocks_of n (a + 12) (drop 12 m) (b + k) (drop k s)) r in
    let q1 : bodies_of strip n (b + k) (drop k s) ≡ done e = rw w at q in
    let ih = laid strip n (a + 12) (b + k) e (drop 12 m) (drop k s) q1 f.1 o.1 in
    let len : length (field_value s) ≡ field_len s = value-length (tag_of strip) s w in
    (strip-is strip s w, refl, record { fit = f.0; right = o.0 }, rw len ih))
    (λ w. let g : refused 6 b ≡ done e = rw w at q in let z : ◌≡◌ {A = ℕ} 0 1 = cc in absurd (omega arith))

laid_own : (strip : Bool) (j : ℕ) (bs : List Block) → Laid strip j bs → Laid (strip_of bs) j bs
laid_own strip j [] h = tt
laid_own strip j (b ∷ bs) h = subst (λ (x : Bool). Laid x j (b ∷ bs)) (sym h.0) h

-- ---- the loop: the bodies before the reading place r are turned, the others are to come, from place j on

pub record Turning (s : List ℕ) (strip : Bool) (at : ℕ) (v out₀ out : List ℕ) (r : Reading) : Type 0 where
  pub rests : Rests s r
  pub j : ℕ
  pub laid : Laid strip j (blocks_left s r)
  pub rest : Rest out₀ out at j v (bodies_bytes (not strip) (chunks_of (blocks_left s r)))
  pub room : length s ≤ length out₀

-- before the first block
abbrev pub TurningFrom : (s : List ℕ) (b : Reading) (out₀ out : List ℕ) (r : Reading) → Type 0
TurningFrom s b out₀ out r = Turning s (strip_of (blocks_left s b)) b.body (turned_bodies (blocks_left s b)) out₀ out r

start_laid : (s : List ℕ) (p : Place) → (strip : Bool) (e : ℕ) → bodies_of strip p.count (p.at + 8 + 12 * p.count) (drop (p.at + 8 + 12 * p.count) s) ≡ done e →
    All (λ (x : Block). Fit x.sum) (blocks_at s p.at p.count) → bad_body (blocks_at s p.at p.count) ≡ None → Laid strip (p.at + 8 + 12 * p.count) (blocks_at s p.at p.count)
unfolding blocks_at
start_laid s p strip e q f r = laid strip p.count (p.at + 8) (p.at + 8 + 12 * p.count) e (drop (p.at + 8) s) (drop (p.at + 8 + 12 * p.count) s) q f r

pub turning-start : (s : List ℕ) (p : Place) (r : Reading) (out : List ℕ) → Turnable s p out → r ≡ reading_of p → TurningFrom s r out out r
turning-start s p r out h e = rw e go
  where
    go : TurningFrom s (reading_of p) out out (reading_of p)
    go =
        let rests = start-rests s p h.ready in
        let own = start_laid s p rests.strip rests.end rests.bodied h.fit h.right in
        record {
          rests = rests;
          j = p.at + 8 + 12 * p.count;
          laid = rw (start_left_lem s p) (laid_own rests.strip (p.at + 8 + 12 * p.count) (blocks_at s p.at p.count) own);
          rest = rest-start out (p.at + 8 + 12 * p.count) (turned_bodies (blocks_left s (reading_of p)));
          room = h.room;
        }

bodies_cons : (strip : Bool) (b : Block) (bs : List Block) → bodies_bytes strip (chunks_of (b ∷ bs)) ≡ field_bytes (tag_of strip) (body_bytes strip (read_or (body_posts b.sum b.body))) ++ bodies_bytes strip (chunks_of bs)
unfolding bodies_bytes
bodies_cons strip b bs = refl

bodies-none : (strip : Bool) → bodies_bytes strip [] ≡ []
unfolding bodies_bytes
bodies-none strip = refl

module _ (s : List ℕ) (strip : Bool) (at : ℕ) (all out₀ out : List ℕ) (r : Reading) (h : Bytes s) (b : Block) (v e : ℕ) (next : Reading) (m : Summary) (q : b.sum ≡ m) (f : Finds s r b v e next) (c : Turning s strip at all out₀ out r) where
  now_laid : Laid strip c.j (b ∷ blocks_left s next)
  now_laid = subst (λ (bs : List Block). Laid strip c.j bs) f.left c.laid

  -- its body is at the place of the loop
  body-place : v - 3 ≡ c.j
  body-place = omega (arith, f.tag, now_laid.1)

  pub turning-room : Turns m (take (e - v) (drop v s)) × (v - 3 + 3 + length (take (e - v) (drop v s)) ≤ length out)
  turning-room =
      let t : Turns m b.body = subst (λ (x : Summary). Turns x b.body) q now_laid.2 in
      let n : length (take (e - v) (drop v s)) ≡ e - v = length-take-le (e - v) (drop v s) (omega (arith, length-drop v s, f.inside)) in
      (subst (λ (x : List ℕ). Turns m x) f.body t, omega (arith, f.tag, f.order, f.inside, c.room, c.rest.same))

  pub turning-on : (out' : List ℕ) (past : ℕ) → Stored out out' (v - 3) past (field_bytes (tag_of (not m.strip)) (body_bytes (not m.strip) (body_run m (take (e - v) (drop v s))))) → Turning s strip at all out₀ out' next
  turning-on out' past w =
      let body = take (e - v) (drop v s) in
      let t = turning-room.0 in
      let hb : Bytes body = bytes_take (e - v) (drop v s) (bytes_drop v s h) in
      let lay : m.strip ≡ strip = sym (ap (λ (x : Summary). x.strip) q) ∙ now_laid.0 in
      let run : body_run m body ≡ read_or (body_posts b.sum b.body) = rw (q, f.body) (sym (run_is m body hb t)) in
      let field = field_bytes (tag_of (not strip)) (body_bytes (not strip) (read_or (body_posts b.sum b.body))) in
      let same : field_bytes (tag_of (not m.strip)) (body_bytes (not m.strip) (body_run m body)) ≡ field = ap₂ (λ (x : Bool) (ps : List Post). field_bytes (tag_of (not x)) (body_bytes (not x) ps)) lay run in
      let st : Stored out out' c.j past field = subst (λ (k : ℕ). Stored out out' k past field) body-place (stored_as same w) in
      let size : length field ≡ 3 + length b.body = omega (arith, ap length same, field-size (tag_of (not m.strip)) (body_bytes (not m.strip) (body_run m body)), run-size m body hb t (not m.strip), ap length f.body) in
      let far : past ≡ c.j + (3 + length b.body) = omega (arith, st.past) in
      record {
        rests = f.rests;
        j = past;
        laid = rw far now_laid.3;
        rest = rest-turn field (bodies_bytes (not strip) (chunks_of (blocks_left s next))) (ap (λ (bs : List Block). bodies_bytes (not strip) (chunks_of bs)) f.left ∙ bodies_cons (not strip) b (blocks_left s next)) c.rest st;
        room = c.room;
      }

pub turning-done : (s : List ℕ) (p : Place) (b : Reading) (out₀ out : List ℕ) (r : Reading) → b ≡ reading_of p → blocks_left s r ≡ [] → TurningFrom s b out₀ out r →
    out ≡ sets out₀ (p.at + 8 + 12 * p.count) (turned_bodies (blocks_at s p.at p.count))
turning-done s p b out₀ out r q e c =
    let strip = strip_of (blocks_left s b) in
    let same : blocks_left s b ≡ blocks_at s p.at p.count = rw q (start_left_lem s p) in
    let at : b.body ≡ p.at + 8 + 12 * p.count = ap (λ (x : Reading). x.body) q in
    let none : bodies_bytes (not strip) (chunks_of (blocks_left s r)) ≡ [] = ap (λ (bs : List Block). bodies_bytes (not strip) (chunks_of bs)) e ∙ bodies-none (not strip) in
    (rest_end none c.rest).whole ∙ ap (λ (k : ℕ). sets out₀ k (turned_bodies (blocks_left s b))) at ∙ ap (λ (bs : List Block). sets out₀ (p.at + 8 + 12 * p.count) (turned_bodies bs)) same
