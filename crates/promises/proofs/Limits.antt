-- The limits are the paper's. Assumes nothing.
use Prim.Native.Nat.{ℕ, zero, suc, ◌+◌, ◌-◌, ◌*◌, ◌^◌, ◌≤◌, ◌<◌, max}
use native.Mathlib.Omega.{arith}
use mathlib.Core.Path.{◌≡◌, refl, sym, ap, ◌∙◌}
use mathlib.Core.Bool.{true, false, ◌&&◌}
use mathlib.Core.Logic.{◌↔◌}
use mathlib.Core.List.{List, [], ◌∷◌, ◌++◌, map, append-nil}
use borrow.Author.Tests.{leb-true, le-leb, lt-leb, lt-ltb}
use lib.Dec.{leb}
use lib.ListN.{length, drop, replicate, length-append, length-replicate}
use lib.Seq.{drop-append_seam}
use Rattle.model.specs.Outcome.{refused, done, and_then}
use Rattle.model.specs.Post.{Post, post, postings, Rising, Scored, last_doc}
use Rattle.model.specs.Runs.{All}
use Rattle.model.proofs.Lists.{and-true}
use Rattle.model.proofs.Posts.{count_of}
use Rattle.wire.specs.Number.{num, be}
use Rattle.wire.specs.Field.{field_len, whole, field_value, field_bytes}
use Rattle.wire.specs.Gap.{more, gap, gap_in, score}
use Rattle.block.specs.Summary.{is_sum, sum_of, right_sum, sum_bytes}
use Rattle.block.specs.Body.{is_strip, edge, gapped, posting, posts, body_posts, right_body, later_bytes, front_bytes, back_bytes, body_bytes}
use Rattle.shelf.specs.Walk.{head_term, head_count, right_head, one_sum, sums, one_body, bodies_of, bodies, blocks_of, list, onto, lists, walk}
use Rattle.shelf.specs.Check.{judged, checked}
use Rattle.list.specs.Write.{Word, Words, Writable, packed, sums_bytes, bodies_bytes, blocks_bytes, list_bytes, fault_at, writing, write_list}
use Rattle.list.proofs.Writes.{written-sound}
use Rattle.list.proofs.Packing.{list-size, size_small}
use Rattle.list.proofs.Pieces.{ReadsAt, packed_stands}
use Rattle.list.proofs.Accepted.{accepted-written}
use Rattle.change.specs.Bytes.{Piece, few, joined, changed, there, within, settled, edited}
use Rattle.query.specs.Query.{is_field, terms_in, term_count, field_count, judge, asked}
use Rattle.promises.specs.Limits.{Row, table, up_from, written, words_from, Bounded, Limits}

-- ---- what computes

all-rows : map (λ (r : Row). r.does) table ≡ map (λ (r : Row). r.says) table
unfolding asked judge field_count term_count terms_in is_field whole field_len field_value field_bytes num be checked walk lists list head_term head_count right_head one_sum sums one_body bodies_of bodies blocks_of is_sum sum_of right_sum is_strip edge gapped posting posts body_posts right_body more gap score edited settled within there changed fault_at write_list list_bytes blocks_bytes packed sums_bytes bodies_bytes sum_bytes body_bytes front_bytes back_bytes later_bytes gap_in
all-rows = refl

-- ---- postings

up-length : (d n : ℕ) → length (up_from d n) ≡ n
up-length d zero = refl
up-length d (suc n) = ap suc (up-length (d + 1) n)

abbrev ones : (d n : ℕ) → List Post
ones d n = postings (up_from d n) (replicate n 1)

ones_rise : (m d n : ℕ) → m < d → Rising m (ones d n)
ones_rise m d zero l = tt
ones_rise m d (suc n) l = (l, ones_rise d (d + 1) n (omega arith))

ones_scored : (d n : ℕ) → Scored (ones d n)
ones_scored d zero = tt
ones_scored d (suc n) = ((omega arith, omega arith), ones_scored (d + 1) n)

ones_last : (lim m d n : ℕ) → m ≤ lim → d + n ≤ lim + 1 → last_doc m (ones d n) ≤ lim
ones_last lim m d zero l h = l
ones_last lim m d (suc n) l h = ones_last lim d (d + 1) n (omega arith) (omega arith)

same-long : (n : ℕ) → length (up_from 1 n) ≡ length {A = ℕ} (replicate n 1)
same-long n = up-length 1 n ∙ sym (length-replicate n 1)

ones_writable : (n : ℕ) → 1 ≤ n → n ≤ 6400 → Writable (ones 1 n)
ones_writable n some few =
    let c : length (ones 1 n) ≡ n = count_of (up_from 1 n) (replicate n 1) (same-long n) ∙ up-length 1 n in
    record { some = omega arith; few = omega arith; rise = ones_rise 0 1 n (omega arith); scores = ones_scored 1 n; last = ones_last 16777215 0 1 n (omega arith) (omega arith) }

abbrev word : (t : ℕ) → List Post → Word
word t ps = record { term = t; posts = ps; strip = false }

written_in : (n : ℕ) → 1 ≤ n → n ≤ 6400 → judged (and_then (written (up_from 1 n) (replicate n 1)) checked) ≡ done tt
unfolding writing
written_in n some few =
    let w = ones_writable n some few in
    let size : length (list_bytes false 7 (ones 1 n)) ≤ 1048576 = omega (arith, list-size false 7 (up_from 1 n) (replicate n 1), size_small false (up_from 1 n) (replicate n 1)) in
    let done-so = accepted-written false 7 (up_from 1 n) (replicate n 1) 1048576 (record { same = same-long n; may = w }) size in
    let alone : writing (word 7 (ones 1 n) ∷ []) ≡ list_bytes false 7 (ones 1 n) = append-nil (list_bytes false 7 (ones 1 n)) in
    let sound = written-sound (word 7 (ones 1 n) ∷ []) (omega arith, omega arith, w, tt) (omega arith) (omega (arith, ap length alone)) in
    rw done-so (ap judged (ap checked (sym alone) ∙ sound))

written_out : (n : ℕ) → 6400 < n → written (up_from 1 n) (replicate n 1) ≡ refused 11 0
unfolding write_list
written_out n l = rw (lt-ltb 6400 (max (length (up_from 1 n)) (length (replicate {A = ℕ} n 1))) (omega (arith, up-length 1 n)))

-- ---- lists

one_writable : Writable (post 1 1 ∷ [])
one_writable = record { some = omega arith; few = omega arith; rise = (omega arith, tt); scores = ((omega arith, omega arith), tt); last = omega arith }

abbrev single : ℕ → List ℕ
single t = list_bytes false t (post 1 1 ∷ [])

single_size : (t : ℕ) → length (single t) ≡ 25
unfolding list_bytes blocks_bytes packed sums_bytes bodies_bytes sum_bytes body_bytes front_bytes back_bytes later_bytes field_bytes be
single_size t = refl

words_ok : (floor t n : ℕ) → floor ≤ t → t + n ≤ 2 ^ 32 → Words floor (words_from t n)
words_ok floor t zero l h = tt
words_ok floor t (suc n) l h = (l, omega arith, one_writable, words_ok (t + 1) (t + 1) n (omega arith) (omega arith))

words_count : (t n : ℕ) → length (words_from t n) ≡ n
words_count t zero = refl
words_count t (suc n) = ap suc (words_count (t + 1) n)

words_size : (t n : ℕ) → length (writing (words_from t n)) ≡ 25 * n
unfolding writing
words_size t zero = refl
words_size t (suc n) = omega (arith, length-append (single t) (writing (words_from (t + 1) n)), single_size t, words_size (t + 1) n)

lists-inside : (n : ℕ) → n ≤ 1024 → judged (checked (writing (words_from 0 n))) ≡ done tt
lists-inside n l = rw (written-sound (words_from 0 n) (words_ok 0 0 n (omega arith) (omega arith)) (omega (arith, words_count 0 n)) (omega (arith, words_size 0 n)))

none_left : (floor at : ℕ) (s : List ℕ) → 0 < length s → lists zero floor at s ≡ refused 6 at
unfolding lists
none_left floor at [] h = absurd (omega arith)
none_left floor at (b ∷ s) h = refl

some_left : (n floor at : ℕ) (s : List ℕ) → 0 < length s →
    lists (suc n) floor at s ≡ and_then (list floor at s) (λ l. onto l (lists n (l.place.term + 1) l.place.next (drop (l.place.next - at) s)))
unfolding lists
some_left n floor at [] h = absurd (omega arith)
some_left n floor at (b ∷ s) h = refl

-- the first list, and those after it
read_first : (floor at t : ℕ) (rest : List ℕ) → floor ≤ t → t < 2 ^ 32 → ReadsAt false t (post 1 1 ∷ []) (single t) floor at rest
read_first floor at t rest l small = (packed_stands false t (post 1 1 ∷ []) small one_writable).reads floor at rest l

one_then : (m floor at t : ℕ) (rest : List ℕ) (l : floor ≤ t) (small : t < 2 ^ 32)
    → lists (suc m) floor at (single t ++ rest) ≡ onto (read_first floor at t rest l small).found (lists m (t + 1) (at + 25) rest)
one_then m floor at t rest l small =
    let r = read_first floor at t rest l small in
    let size = single_size t in
    let next : r.found.place.next ≡ at + 25 = omega (arith, r.next) in
    let far : at + 25 - at ≡ length (single t) = omega arith in
    let past : drop (at + 25 - at) (single t ++ rest) ≡ rest = rw far (drop-append_seam (single t) rest) in
    some_left m floor at (single t ++ rest) (omega (arith, length-append (single t) rest)) ∙ rw (r.reads, r.term, next, past)

-- one more list than there may be is named by its tag
too_many : (m n floor at t : ℕ) → floor ≤ t → t + n ≤ 2 ^ 32 → m < n → lists m floor at (writing (words_from t n)) ≡ refused 6 (at + 25 * m)
unfolding writing
too_many m zero floor at t l h more = absurd (omega arith)
too_many zero (suc n) floor at t l h more = rw (none_left floor at (writing (words_from t (suc n))) (omega (arith, words_size t (suc n)))) (ap (refused 6) (omega arith))
too_many (suc m) (suc n) floor at t l h more =
    one_then m floor at t (writing (words_from (t + 1) n)) l (omega arith)
    ∙ ap (onto (read_first floor at t (writing (words_from (t + 1) n)) l (omega arith)).found) (too_many m n (t + 1) (at + 25) (t + 1) (omega arith) (omega arith) (omega arith))
    ∙ ap (refused 6) (omega arith)

shelf-out : (n : ℕ) → 1024 < n → n ≤ 41943 → checked (writing (words_from 0 n)) ≡ refused 6 25600
unfolding checked walk
shelf-out n l h = rw (le-leb (length (writing (words_from 0 n))) 1048576 (omega (arith, words_size 0 n)), too_many 1024 n 0 0 0 (omega arith) (omega arith) l)

-- ---- bytes

walked_in : (s : List ℕ) → length s ≤ 1048576 → walk s ≡ lists 1024 0 0 s
unfolding walk
walked_in s l = rw (le-leb (length s) 1048576 l)

walked-out : (s : List ℕ) → 1048576 < length s → walk s ≡ refused 6 0
unfolding walk
walked-out s l = rw (lt-leb (length s) 1048576 l)

-- ---- results

few-all : (xs : List Piece) → (few xs ≡ true) ↔ All (λ (x : Piece). length x.posts ≤ 6400) xs
few-all [] = (λ e. tt, λ a. refl)
few-all (x ∷ xs) = (
  λ e. let w = and-true (leb (length x.posts) 6400) (few xs) e in (leb-true (length x.posts) 6400 w.0, (few-all xs).0 w.1),
  λ a. rw (le-leb (length x.posts) 6400 a.0) ((few-all xs).1 a.1),
)

results : (xs : List Piece) → (within xs ≡ true) ↔ Bounded xs
unfolding within
results xs = (there_so, back)
  where
    there_so : (few xs && (leb (length xs) 1024 && leb (length (joined xs)) 1048576)) ≡ true → Bounded xs
    there_so e =
        let a = and-true (few xs) (leb (length xs) 1024 && leb (length (joined xs)) 1048576) e in
        let b = and-true (leb (length xs) 1024) (leb (length (joined xs)) 1048576) a.1 in
        record { postings = (few-all xs).0 a.0; lists = leb-true (length xs) 1024 b.0; bytes = leb-true (length (joined xs)) 1048576 b.1 }

    back : Bounded xs → (few xs && (leb (length xs) 1024 && leb (length (joined xs)) 1048576)) ≡ true
    back b = rw ((few-all xs).1 b.postings, le-leb (length xs) 1024 b.lists, le-leb (length (joined xs)) 1048576 b.bytes)

pub limits : Limits
limits = record {
  rows = all-rows;
  postings_in = written_in;
  postings-out = written_out;
  lists-in = lists-inside;
  lists-out = shelf-out;
  bytes-in = walked_in;
  bytes-out = walked-out;
  results = results;
}
