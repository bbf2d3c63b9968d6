-- The two worked schedules. Assumes nothing.
use Rattle.std.proofs.Common.{◌≡◌, ℕ, zero, suc, ◌+◌, ◌<◌, ◌≤◌, true, false, cond, ◌||◌, eqb, ltb, ◌⊎◌, [], sym, refl, ◌∙◌, subst, inl, inr, ⊎_elim, div-mul-le_self, arith}
use Rattle.std.proofs.lemmas.Bool.{and_left, cases_eq, false≢true, le-ltb, lt-ltb, ltb-true, ne_eqb}
use Rattle.analysis.specs.Interference.{interference, lawful, sum_largest}
use Rattle.analysis.specs.Kept.{Kept}
use Rattle.analysis.specs.Work.{amount}
use Rattle.schedule.specs.Examples.{house, gone_by, together, TogetherFacts, crowd, crowded, CrowdedFacts}
use Rattle.schedule.specs.Legal.{Legal}
use Rattle.schedule.specs.Levels.{run_at, gap_at}
use Rattle.schedule.specs.Running.{runs, slots_between}

-- a fact of each level from levels 10, 20 and 30 and from all others
by_three : (P : ℕ → Type 0) → P 10 → P 20 → P 30 → ((i : ℕ) → eqb i 10 ≡ false → eqb i 20 ≡ false → eqb i 30 ≡ false → P i) → (i : ℕ) → P i
by_three P a b c d i =
    ⊎_elim
    (λ (e : i ≡ 10). subst P (sym e) a)
    (λ (x : i ≡ 10 → ⊥).
    ⊎_elim
    (λ (e : i ≡ 20). subst P (sym e) b)
    (λ (y : i ≡ 20 → ⊥).
    ⊎_elim
    (λ (e : i ≡ 30). subst P (sym e) c)
    (λ (z : i ≡ 30 → ⊥). d i (ne_eqb i 10 x) (ne_eqb i 20 y) (ne_eqb i 30 z))
    (cases_eq i 30))
    (cases_eq i 20))
    (cases_eq i 10)

house_kept : Kept 2 [] house
unfolding lawful interference sum_largest amount
house_kept = (record { fits = refl; tested = refl }, (record { fits = refl; tested = refl }, (record { fits = refl; tested = refl }, tt)))

none_other : (i : ℕ) → eqb i 10 ≡ false → eqb i 20 ≡ false → eqb i 30 ≡ false → gone_by i ≡ 0
none_other i a b c = (λ j. cond (a j) 2 (cond (b j) 3 (cond (c j) 4 0)))

together_unfinished : (i t : ℕ) → together.there t i ≡ true → slots_between 2 together i 0 t < run_at house i
together_unfinished i = by_three (λ i. (t : ℕ) → together.there t i ≡ true → slots_between 2 together i 0 t < run_at house i) ten twenty thirty (λ i a b c t e. absurd (omega (arith, ltb-true t (gone_by i) e, none_other i a b c))) i
  where
    ten : (t : ℕ) → ltb t 2 ≡ true → slots_between 2 together 10 0 t < 2
    ten zero e = omega arith
    ten (suc zero) e = omega arith
    ten (suc (suc t)) e = absurd (omega (arith, ltb-true (suc (suc t)) 2 e))

    twenty : (t : ℕ) → ltb t 3 ≡ true → slots_between 2 together 20 0 t < 3
    twenty zero e = omega arith
    twenty (suc zero) e = omega arith
    twenty (suc (suc zero)) e = omega arith
    twenty (suc (suc (suc t))) e = absurd (omega (arith, ltb-true (suc (suc (suc t))) 3 e))

    thirty : (t : ℕ) → ltb t 4 ≡ true → slots_between 2 together 30 0 t < 2
    thirty zero e = omega arith
    thirty (suc zero) e = omega arith
    thirty (suc (suc zero)) e = omega arith
    thirty (suc (suc (suc zero))) e = omega arith
    thirty (suc (suc (suc (suc t)))) e = absurd (omega (arith, ltb-true (suc (suc (suc (suc t)))) 4 e))

together_legal : (now : ℕ) → Legal 2 house 0 now together
together_legal now =
    record {
      released = λ t i n e. (omega arith, omega arith);
      stays = λ t i n e. inr (lt-ltb t (gone_by i) (omega (arith, ltb-true (suc t) (gone_by i) e)), refl);
      apart = λ t u i a b c d h. absurd (omega arith);
      unfinished = λ t i n e. together_unfinished i t e;
    }

gone_early : (i : ℕ) → gone_by i ≤ 4
gone_early i = by_three (λ i. gone_by i ≤ 4) (omega arith) (omega arith) (omega arith) (λ i a b c. omega (arith, none_other i a b c)) i

other_rests : (t i : ℕ) → eqb i 10 ≡ false → eqb i 20 ≡ false → eqb i 30 ≡ false → runs 2 together t i ≡ false
other_rests t i a b c = and_left (together.there t i) _ (le-ltb t (gone_by i) (omega (arith, none_other i a b c)))

neither : (i a b : ℕ) → eqb i a ≡ false → eqb i b ≡ false → false ≡ (eqb i a || eqb i b)
neither i a b p q = sym (λ j. p j || q j)

pub together_facts : TogetherFacts house
together_facts =
    record {
      kept = house_kept;
      legal = together_legal;
      slot_0 = by_three (λ i. runs 2 together 0 i ≡ (eqb i 10 || eqb i 20)) refl refl refl (λ i a b c. other_rests 0 i a b c ∙ neither i 10 20 a b);
      slot_1 = by_three (λ i. runs 2 together 1 i ≡ (eqb i 10 || eqb i 20)) refl refl refl (λ i a b c. other_rests 1 i a b c ∙ neither i 10 20 a b);
      slot_2 = by_three (λ i. runs 2 together 2 i ≡ (eqb i 20 || eqb i 30)) refl refl refl (λ i a b c. other_rests 2 i a b c ∙ neither i 20 30 b c);
      slot_3 = by_three (λ i. runs 2 together 3 i ≡ eqb i 30) refl refl refl (λ i a b c. other_rests 3 i a b c ∙ sym c);
      later = λ t i l. and_left (together.there t i) _ (le-ltb t (gone_by i) (omega (arith, gone_early i)));
      gone_10 = λ t l. le-ltb t 2 l;
      gone_20 = λ t l. le-ltb t 3 l;
      gone_30 = λ t l. le-ltb t 4 l;
    }

-- only levels 10 and 20 have jobs in the crowded schedule
by_two : (P : ℕ → Type 0) → P 10 → P 20 → (t i : ℕ) → crowded.there t i ≡ true → P i
by_two P a b t i =
    by_three (λ i. crowded.there t i ≡ true → P i) (λ e. a) (λ e. b) (λ e. absurd (false≢true e))
    (λ i a b c e. absurd (false≢true (neither i 10 20 a b ∙ e))) i

crowded_stays : (t i : ℕ) → suc t ≤ 2 → crowded.there (suc t) i ≡ true → (crowded.since (suc t) i ≡ suc t) ⊎ ((crowded.there t i ≡ true) × (crowded.since (suc t) i ≡ crowded.since t i))
crowded_stays zero i n e = by_two (λ i. (crowded.since 1 i ≡ 1) ⊎ ((crowded.there 0 i ≡ true) × (crowded.since 1 i ≡ crowded.since 0 i))) (inr (refl, refl)) (inr (refl, refl)) 1 i e
crowded_stays (suc zero) i n e = by_two (λ i. (crowded.since 2 i ≡ 2) ⊎ ((crowded.there 1 i ≡ true) × (crowded.since 2 i ≡ crowded.since 1 i))) (inl refl) (inr (refl, refl)) 2 i e
crowded_stays (suc (suc t)) i n e = absurd (omega arith)

crowded_unfinished : (t i : ℕ) → t ≤ 2 → crowded.there t i ≡ true → slots_between 1 crowded i (crowded.since t i) t < run_at crowd i
crowded_unfinished zero i n e = by_two (λ i. slots_between 1 crowded i (crowded.since 0 i) 0 < run_at crowd i) (omega arith) (omega arith) 0 i e
crowded_unfinished (suc zero) i n e = by_two (λ i. slots_between 1 crowded i (crowded.since 1 i) 1 < run_at crowd i) (omega arith) (omega arith) 1 i e
crowded_unfinished (suc (suc zero)) i n e = by_two (λ i. slots_between 1 crowded i (crowded.since 2 i) 2 < run_at crowd i) (omega arith) (omega arith) 2 i e
crowded_unfinished (suc (suc (suc t))) i n e = absurd (omega arith)

crowded_legal : Legal 1 crowd 0 2 crowded
crowded_legal =
    record {
      released = λ t i n e. (omega arith, by_two (λ i. crowded.since t i ≤ t) (omega (arith, div-mul-le_self t 2)) (omega arith) t i e);
      stays = crowded_stays;
      apart = λ t u i n o e f. by_two (λ i. crowded.since t i < crowded.since u i → crowded.since t i + gap_at crowd i ≤ crowded.since u i) (λ h. omega arith) (λ h. absurd (omega arith)) t i e;
      unfinished = crowded_unfinished;
    }

pub crowded_facts : CrowdedFacts crowd
unfolding interference sum_largest amount
crowded_facts = record { legal = crowded_legal; refused = refl; waits = refl; late = omega arith }
