-- What a reader sees of a turned shelf: block by block the numbers of the summary and the postings of the body are the same. Assumes nothing.
use Prim.Native.Nat.{ℕ, ◌+◌, ◌-◌, ◌*◌, ◌^◌, ◌≤◌, ◌<◌}
use native.Mathlib.Omega.{arith}
use mathlib.Core.Path.{◌≡◌, refl, sym, ap, subst, ◌∙◌}
use mathlib.Core.List.{List, [], ◌∷◌, ◌++◌}
use mathlib.Core.Bool.{Bool, true, false, cond, not}
use lib.Dec.{eqb}
use lib.ListN.{length, drop}
use Rattle.model.specs.Outcome.{done}
use Rattle.model.specs.Post.{Post, Rising, Scored, last_doc}
use Rattle.model.specs.Runs.{Bytes}
use Rattle.model.proofs.Lists.{split}
use Rattle.block.specs.Summary.{summary_of}
use Rattle.block.specs.Body.{right_body, body_run, front_bytes, body_bytes}
use Rattle.block.proofs.Bodies.{body_round, right_round}
use Rattle.block.proofs.Contents.{run-all}
use Rattle.shelf.specs.Walk.{Block, Listing, strip_of, list, lists}
use Rattle.shelf.specs.Check.{bad_body, bad_lists, checked}
use Rattle.std.specs.Prelude.{None}
use Rattle.shelf.proofs.Walks.{list-walked}
use Rattle.shelf.proofs.Sounds.{or_none}
use Rattle.lookup.specs.Gather.{term_list, term_blocks}
use Rattle.list.specs.Write.{blocks_bytes}
use Rattle.list.proofs.Writes.{Fines, blocks_for, written, list_round}
use Rattle.list.proofs.Canonical.{chunks, chunks_length}
use Rattle.change.specs.Bytes.{Piece, piece_of, pieces}
use Rattle.change.proofs.Pieces.{lists_inv, checked-sound}
use Rattle.convert.specs.Convert.{chunks_of, turned, turned_pieces, Turned}
use Rattle.convert.proofs.Layouts.{chunks_are, list_reads, own-bytes}
use Rattle.convert.proofs.Lists.{turned-count}
use Rattle.convert.proofs.Seatings.{first_past}

-- ---- blocks of which a reader sees the same

-- the numbers of their summaries, and the postings of their bodies, which are right
pub record Alike (b c : Block) : Type 0 where
  pub least : b.sum.least ≡ c.sum.least
  pub greatest : b.sum.greatest ≡ c.sum.greatest
  pub top : b.sum.top ≡ c.sum.top
  pub count : b.sum.count ≡ c.sum.count
  pub right : right_body b.sum b.body ≡ true
  pub right' : right_body c.sum c.body ≡ true
  pub run : body_run b.sum b.body ≡ body_run c.sum c.body

abbrev pub AllAlike : List Block → List Block → Type 0
AllAlike [] [] = Unit {0}
AllAlike [] (c ∷ cs) = ⊥
AllAlike (b ∷ bs) [] = ⊥
AllAlike (b ∷ bs) (c ∷ cs) = Alike b c × AllAlike bs cs

-- the same postings written as blocks, in any two layouts and at any places
run_round : (strip : Bool) (p : Post) (ps : List Post) → last_doc p.doc ps < 128 ^ 4 → Rising p.doc ps → Scored (p ∷ ps) →
    body_run (summary_of strip (p ∷ ps)) (body_bytes strip (p ∷ ps)) ≡ p ∷ ps
run_round strip p ps small r s =
    run-all (summary_of strip (p ∷ ps)) (body_bytes strip (p ∷ ps)) (p ∷ ps) (length (front_bytes strip (p ∷ ps))) (body_round strip p ps small r s)

written-alike : (x y : Bool) (p i j k l : ℕ) (cs : List (List Post)) → Fines p cs → AllAlike (blocks_for x i j cs) (blocks_for y k l cs)
written-alike x y p i j k l [] f = tt
written-alike x y p i j k l ([] ∷ cs) f = absurd f.0
written-alike x y p i j k l ((c ∷ ps) ∷ cs) f =
    let small : last_doc c.doc ps < 128 ^ 4 = omega (arith, f.0.3) in
    let rise = f.0.0.1 in
    let scored = f.0.1 in
    let long : Bool → ℕ = λ (strip : Bool). 3 + length (body_bytes strip (c ∷ ps)) in (
      record {
        least = refl;
        greatest = refl;
        top = refl;
        count = refl;
        right = right_round x c ps small rise scored;
        right' = right_round y c ps small rise scored;
        run = run_round x c ps small rise scored ∙ sym (run_round y c ps small rise scored);
      },
      written-alike x y (last_doc c.doc ps) (i + 12) (j + long x) (k + 12) (l + long y) cs f.1,
    )

-- ---- a list of a sound shelf, and a list of the same term that reads where the first one's blocks are written in some layout

done-same : (l m : Listing) → done l ≡ done m → l ≡ m
done-same l m e = cc

both : (a b c d : List Block) → a ≡ c → b ≡ d → AllAlike c d → AllAlike a b
both a b c d e f w = rw (e, f) w

module _ (floor at : ℕ) (s : List ℕ) (l : Listing) (h : Bytes s) (e : list floor at (drop at s) ≡ done l) (b : bad_body l.blocks ≡ None) where
  module _ (floor' at' : ℕ) (v r : List ℕ) (m : Listing) (f : list floor' at' (drop at' v) ≡ done m) (d : (piece_of v m).bytes ++ r ≡ drop at' v) (term : m.place.term ≡ l.place.term)
      (strip : Bool) (q : (piece_of v m).bytes ≡ blocks_bytes strip l.place.term (chunks_of l.blocks)) where
    -- it is what is written for those blocks
    pub read-there : m ≡ written strip l.place.term at' (chunks l.blocks)
    read-there =
        let k = list_reads floor at s l h e b in
        let t = l.place.term in
        let cs = chunks l.blocks in
        let n = chunks_length l.blocks in
        let bytes : drop at' v ≡ blocks_bytes strip t cs ++ r =
        sym d ∙ ap (λ (x : List ℕ). x ++ r) q ∙ ap (λ (ds : List (List Post)). blocks_bytes strip t ds ++ r) (chunks_are l.blocks) in
        let low : floor' ≤ t = omega (arith, (list-walked floor' at' v m f).rise) in
        done-same m (written strip t at' cs) (sym f ∙ ap (list floor' at') bytes ∙ list_round strip floor' t at' cs r k.small low (omega (arith, k.some)) (omega (arith, k.few)) k.fine)

  -- and a reader sees the same of both
  list-alike : (r : List ℕ) → (piece_of s l).bytes ++ r ≡ drop at s → (floor' at' : ℕ) (v r' : List ℕ) (m : Listing) → list floor' at' (drop at' v) ≡ done m → (piece_of v m).bytes ++ r' ≡ drop at' v →
      m.place.term ≡ l.place.term → (strip : Bool) → (piece_of v m).bytes ≡ blocks_bytes strip l.place.term (chunks_of l.blocks) → AllAlike m.blocks l.blocks
  list-alike r p floor' at' v r' m f d term strip q =
      let cs = chunks l.blocks in
      let own = strip_of l.blocks in
      let there = read-there floor' at' v r' m f d term strip q in
      let here = read-there floor at s r l e p refl own (own-bytes floor at s l h e b) in
      both m.blocks l.blocks (blocks_for strip (at' + 8) (at' + 8 + 12 * length cs) cs) (blocks_for own (at + 8) (at + 8 + 12 * length cs) cs)
      (ap (λ (x : Listing). x.blocks) there) (ap (λ (x : Listing). x.blocks) here)
      (written-alike strip own 0 (at' + 8) (at' + 8 + 12 * length cs) (at + 8) (at + 8 + 12 * length cs) cs (list_reads floor at s l h e b).fine)

-- ---- the lists of a turned shelf

pub cons_same : (x y : Piece) (xs ys : List Piece) → x ∷ xs ≡ y ∷ ys → (x ≡ y) × (xs ≡ ys)
cons_same x y xs ys e = ((cc), (cc))

-- the first, turned or as it was, is written of the old one's blocks
record First (t : ℕ) (s v : List ℕ) (l : Listing) (ls : List Listing) (m : Listing) (ms : List Listing) : Type 0 where
  term : m.place.term ≡ l.place.term
  strip : Bool
  bytes : (piece_of v m).bytes ≡ blocks_bytes strip l.place.term (chunks_of l.blocks)
  rest : pieces v ms ≡ turned_pieces t s ls

first : (t floor at : ℕ) (s v : List ℕ) (l : Listing) (ls : List Listing) (m : Listing) (ms : List Listing) → Bytes s → list floor at (drop at s) ≡ done l → bad_body l.blocks ≡ None →
    pieces v (m ∷ ms) ≡ turned_pieces t s (l ∷ ls) → First t s v l ls m ms
first t floor at s v l ls m ms h e b q =
    split (eqb l.place.term t)
    (λ k.
    let x : piece_of v m ∷ pieces v ms ≡ turned l ∷ turned_pieces t s ls = rw k at q in
    let c = cons_same (piece_of v m) (turned l) (pieces v ms) (turned_pieces t s ls) x in
    record { term = ap (λ (y : Piece). y.term) c.0; strip = not (strip_of l.blocks); bytes = ap (λ (y : Piece). y.bytes) c.0; rest = c.1 })
    (λ k.
    let x : piece_of v m ∷ pieces v ms ≡ piece_of s l ∷ turned_pieces t s ls = rw k at q in
    let c = cons_same (piece_of v m) (piece_of s l) (pieces v ms) (turned_pieces t s ls) x in
    record { term = ap (λ (y : Piece). y.term) c.0; strip = strip_of l.blocks; bytes = ap (λ (y : Piece). y.bytes) c.0 ∙ own-bytes floor at s l h e b; rest = c.1 })

one_of : (x : Bool) (m l m' l' : Listing) → AllAlike m.blocks l.blocks → AllAlike m'.blocks l'.blocks → AllAlike (cond x m m').blocks (cond x l l').blocks
one_of true m l m' l' a b = a
one_of false m l m' l' a b = b

lists-alike : (t n floor at n' floor' at' : ℕ) (s v : List ℕ) (ls ms : List Listing) → Bytes s → lists n floor at (drop at s) ≡ done ls → bad_lists ls ≡ None → lists n' floor' at' (drop at' v) ≡ done ms →
    pieces v ms ≡ turned_pieces t s ls → (u : ℕ) → AllAlike (term_blocks u ms) (term_blocks u ls)
lists-alike t n floor at n' floor' at' s v [] [] h e b f q u = tt
lists-alike t n floor at n' floor' at' s v [] (m ∷ ms) h e b f q u = absurd (omega (arith, ap length q))
lists-alike t n floor at n' floor' at' s v (l ∷ ls) [] h e b f q u = absurd (omega (arith, ap length q, turned-count t s (l ∷ ls)))
lists-alike t n floor at n' floor' at' s v (l ∷ ls) (m ∷ ms) h e b f q u =
    let i = lists_inv n floor at s l ls e in
    let j = lists_inv n' floor' at' v m ms f in
    let o = or_none (bad_body l.blocks) (bad_lists ls) b in
    let a = first t floor at s v l ls m ms h i.reads o.0 q in
    let ih = lists-alike t (n - 1) (l.place.term + 1) l.place.next (n' - 1) (m.place.term + 1) m.place.next s v ls ms h i.left o.1 j.left a.rest u in
    let here =
    list-alike floor at s l h i.reads o.0 (drop l.place.next s) (first_past n floor at s l ls e) floor' at' v (drop m.place.next v) m j.reads (first_past n' floor' at' v m ms f)
    a.term a.strip a.bytes in
    subst (λ (x : ℕ). AllAlike (cond (eqb x u) m (term_list u ms)).blocks (term_blocks u (l ∷ ls))) (sym a.term) (one_of (eqb l.place.term u) m l (term_list u ms) (term_list u ls) here ih)

-- of every term, asked or not: a search, which sees a block through these alone, sees the same
pub turned-alike : (t : ℕ) (s : List ℕ) (old : List Listing) (v : List ℕ) → Bytes s → checked s ≡ done old → (w : Turned t s old v) → (u : ℕ) → AllAlike (term_blocks u w.new) (term_blocks u old)
turned-alike t s old v h e w u =
    let o = checked-sound s old e in
    let c = checked-sound v w.new w.sound in
    lists-alike t 1024 0 0 1024 0 0 s v old w.new h o.reads o.right c.reads w.kept u
