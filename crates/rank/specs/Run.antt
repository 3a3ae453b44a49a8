-- The run over lists: the smallest docid, the sum at it, its postings dropped, and so on up to an interval's last docid. Assumes nothing.
use Rattle.std.specs.Prelude.{ℕ, zero, suc, ◌+◌, ◌*◌, min, Bool, cond, List, [], ◌∷◌, map, length, ltb, eqb}
use Rattle.model.specs.Limits.{max_docid}
use Rattle.model.specs.Post.{Post, post}
use Rattle.rank.specs.Rank.{Hit}
use Rattle.rank.specs.Match.{Term, Rule}

-- past the last docid: where a list is at its end
abbrev pub none : ℕ
none = max_docid + 1

-- the docid of a list's first posting
abbrev pub head_doc : List Post → ℕ
head_doc [] = none
head_doc (p ∷ ps) = p.doc

abbrev pub head_score : ℕ → List Post → ℕ
head_score d [] = 0
head_score d (p ∷ ps) = cond (eqb p.doc d) p.score 0

abbrev pub drop_at : ℕ → List Post → List Post
drop_at d [] = []
drop_at d (p ∷ ps) = cond (eqb p.doc d) ps (p ∷ ps)

-- over all lists: the smallest docid, the sum at it, which lists stand at it, and the lists past it
abbrev pub least_of : List Term → ℕ
least_of [] = none
least_of (t ∷ ts) = min (head_doc t.posts) (least_of ts)

abbrev pub sum_of : ℕ → List Term → ℕ
sum_of d [] = 0
sum_of d (t ∷ ts) = t.weight * head_score d t.posts + sum_of d ts

abbrev pub stand_at : ℕ → List Term → List Bool
stand_at d [] = []
stand_at d (t ∷ ts) = eqb (head_doc t.posts) d ∷ stand_at d ts

abbrev pub drop_term : ℕ → Term → Term
drop_term d t = record { weight = t.weight; posts = drop_at d t.posts }

abbrev pub pass : List Term → List Term
pass ts = map (drop_term (least_of ts)) ts

abbrev pub size : List Term → ℕ
size [] = 0
size (t ∷ ts) = length t.posts + size ts

-- the docids up to `last` that match, the hits, and what the lists then still have
abbrev pub run_docs : Rule → (fuel last : ℕ) → List Term → List ℕ
run_docs m zero last ts = []
run_docs m (suc f) last ts =
    cond (ltb last (least_of ts)) []
    (cond (m (stand_at (least_of ts) ts) (least_of ts)) (least_of ts ∷ run_docs m f last (pass ts)) (run_docs m f last (pass ts)))

abbrev pub run_hits : Rule → (fuel last : ℕ) → List Term → List Hit
run_hits m zero last ts = []
run_hits m (suc f) last ts =
    cond (ltb last (least_of ts)) []
    (cond (m (stand_at (least_of ts) ts) (least_of ts)) (post (least_of ts) (sum_of (least_of ts) ts) ∷ run_hits m f last (pass ts)) (run_hits m f last (pass ts)))

abbrev pub run_left : (fuel last : ℕ) → List Term → List Term
run_left zero last ts = ts
run_left (suc f) last ts = cond (ltb last (least_of ts)) ts (run_left f last (pass ts))

-- the postings from a docid on
abbrev pub drop_below : ℕ → List Post → List Post
drop_below d [] = []
drop_below d (p ∷ ps) = cond (ltb p.doc d) (drop_below d ps) (p ∷ ps)

abbrev pub skip_term : ℕ → Term → Term
skip_term d t = record { weight = t.weight; posts = drop_below d t.posts }
