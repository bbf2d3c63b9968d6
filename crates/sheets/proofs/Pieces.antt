-- Pieces that lack a byte and give a text back, with that byte between them, are what stands between those bytes.
use Rattle.std.proofs.Common.{◌≡◌, ℕ, suc, ◌<◌, true, eqb, List, [], ◌∷◌, ◌++◌, length, not, IfOk, Ok, Err, vec_items, vec_len, filter, Option, Result, Vec, sym, refl, ap, ◌∙◌, arith, Bor}
use lib.ListN.{length-map}
use Rattle.std.specs.Str.Iter.{LacksByte, IsSplitnRun, CutsAtEveryByte}
use Rattle.std.specs.List.{join_with_byte, AllByRecursion}
use Rattle.std.specs.Iterator.Runs.{Run, SomeRun, WholeRun, EachRunFrom}
use Rattle.std.proofs.iter.runs.Lists.{Everywhere}
use Rattle.std.proofs.iter.runs.Made.{seen, each_of}
use Rattle.std.proofs.lemmas.Bool.{cond-true, cond-false, eq-eqb, ne_eqb}
use Rattle.sheets.specs.Words.{texts, onto, pieces, filled}

lacks_rest : (c x : ℕ) (xs : List ℕ) → LacksByte c (x ∷ xs) → LacksByte c xs
lacks_rest c x xs h k l = h (suc k) (omega arith)

-- a text without the byte is one piece
piece_alone : (c : ℕ) (xs : List ℕ) → LacksByte c xs → pieces c xs ≡ xs ∷ []
piece_alone c [] h = refl
piece_alone c (x ∷ xs) h =
    cond-false _ _ _ (ne_eqb x c (h 0 (omega arith))) ∙ ap (onto x) (piece_alone c xs (lacks_rest c x xs h))

-- what stands before the first such byte is the first piece
piece_first : (c : ℕ) (xs ys : List ℕ) → LacksByte c xs → pieces c (xs ++ c ∷ ys) ≡ xs ∷ pieces c ys
piece_first c [] ys h = cond-true _ _ _ (eq-eqb c c refl)
piece_first c (x ∷ xs) ys h =
    cond-false _ _ _ (ne_eqb x c (h 0 (omega arith))) ∙ ap (onto x) (piece_first c xs ys (lacks_rest c x xs h))

pub pieces_rejoined : (c : ℕ) (ps : List (List ℕ)) → 0 < length ps → AllByRecursion (LacksByte c) ps → pieces c (join_with_byte c ps) ≡ ps
pieces_rejoined c [] some h = absurd (omega arith)
pieces_rejoined c (p ∷ []) some h = piece_alone c p h.0
pieces_rejoined c (p ∷ q ∷ ps) some h =
    piece_first c p (join_with_byte c (q ∷ ps)) h.0 ∙ ap (λ l. p ∷ l) (pieces_rejoined c (q ∷ ps) (omega arith) h.1)

all_lack : (c : ℕ) (ss : List (Bor (List ℕ))) → Everywhere ss (λ s. LacksByte c s.now) → AllByRecursion (LacksByte c) (texts ss)
all_lack c [] h = tt
all_lack c (s ∷ ss) h = (h 0, all_lack c ss (λ k. h (suc k)))

-- what is kept of some pieces
filled_by_length : (w : List ℕ) → not (eqb (length w) 0) ≡ filled w
filled_by_length [] = ap not (eq-eqb 0 0 refl)
filled_by_length (x ∷ w) = ap not (ne_eqb (length (x ∷ w)) 0 (λ e. omega arith))

kept_texts : (ss : List (Bor (List ℕ))) → texts (filter (λ s. not (eqb (length s.now) 0)) ss) ≡ filter filled (texts ss)
kept_texts [] = refl
kept_texts (s ∷ ss) =
    let e = kept_texts ss in let f = filled_by_length s.now in rw (← f, ← e) (grind arith)

-- what `collect` makes of a `split` at an ASCII character
module _ {S : Type 0} {steps : S → Option (Bor (List ℕ)) → S → Type 0} (c : ℕ) (bs : List ℕ) (s : S)
    (cuts : EachRunFrom steps s (λ u. (u.whole ≡ true → 0 < u.len) × (IsSplitnRun u bs c × CutsAtEveryByte u bs c))) where
  run_pieces : (p : Run steps) → p.from ≡ s → p.whole ≡ true → texts p.items ≡ pieces c bs
  run_pieces p from whole =
      let cut = cuts p (seen p.len) from in
      let some : 0 < length (texts p.items) = omega (arith, cut.0 whole, p.long, length-map p.items (λ s. s.now)) in
      sym (pieces_rejoined c (texts p.items) some (all_lack c p.items (each_of p (λ x. LacksByte c x.now) cut.1.1.0))) ∙ ap (pieces c) (sym (cut.1.0.2 whole))

  -- of a run that keeps the pieces which are not empty
  pub collected_words : {K Z E : Type 0} {keeps : K → Option (Bor (List ℕ)) → K → Type 0} (k : K) (r : Result (Vec (Bor (List ℕ)) Z) E)
      → EachRunFrom keeps k (λ p. SomeRun steps s (λ q. (q.whole ≡ p.whole) × (p.items ≡ filter (λ x. not (eqb (length x.now) 0)) q.items)))
      → IfOk r (λ v. Unit {0} → WholeRun keeps k (λ p. (vec_items v ≡ p.items) × (vec_len v ≡ length p.items)))
      → IfOk r (λ v. texts (vec_items v) ≡ filter filled (pieces c bs))
  collected_words k (Ok v) kept h =
      let got = h tt in
      let from = kept got.0 (seen got.0.len) got.1 in
      ap texts (got.3.0 ∙ from.2.1) ∙ kept_texts from.0.items ∙ ap (filter filled) (run_pieces from.0 from.1 (from.2.0 ∙ got.2))
  collected_words k (Err e) kept h = tt

  pub collected_pieces : {Z E : Type 0} (r : Result (Vec (Bor (List ℕ)) Z) E) → IfOk r (λ v. Unit {0} → WholeRun steps s (λ p. (vec_items v ≡ p.items) × (vec_len v ≡ length p.items))) → IfOk r (λ v. texts (vec_items v) ≡ pieces c bs)
  collected_pieces (Ok v) h = let got = h tt in ap texts got.3.0 ∙ run_pieces got.0 got.1 got.2
  collected_pieces (Err e) h = tt
