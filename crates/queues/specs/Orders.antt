-- When two items are one, and the laws of their orders. Assumes nothing.
use Rattle.std.specs.Prelude.{◌≡◌, ℕ, ◌+◌, ◌^◌, ◌≤◌}
use Rattle.std.proofs.Common.{ap, subst, ◌∙◌, arith}
use Rattle.std.proofs.Math.Bridge.{le_prop}
use Rattle.std.proofs.lemmas.Bool.Decides.{nat_tests}
use Rattle.queues.specs.declared.extra.Extra.{Extra}
use Rattle.queues.specs.declared.level.Level.{Level}
use Rattle.queues.specs.declared.wake_up.WakeUp.{WakeUp}
use Rattle.queues.specs.Items.{level_before, wake_up_before, extra_before}
use Rattle.queues.specs.Sets.{Lawful}

-- the fact that a number is within its limit has one proof, so the number decides
same_made : {A : Type 0} (limit : ℕ) (f : (n : ℕ) → n ≤ limit → A) (m n : ℕ) (p : m ≤ limit) (q : n ≤ limit) → m ≡ n → f m p ≡ f n q
same_made limit f m n p q e = subst (λ k. (s : k ≤ limit) → f m p ≡ f k s) e (λ s. ap (f m) (le_prop p s)) q

abbrev level : (n : ℕ) → n ≤ 63 → Level
level n p = record { number = n; small = p }

pub same_level : (x y : Level) → x.number ≡ y.number → x ≡ y
same_level x y e = same_made 63 level x.number y.number x.small y.small e

pub same_extra : (x y : Extra) → x.amount ≡ y.amount → x.level.number ≡ y.level.number → x ≡ y
same_extra x y a l = ap (λ n. extra n x.level) a ∙ ap (extra y.amount) (same_level x.level y.level l)
  where
    extra : ℕ → Level → Extra
    extra n k = record { amount = n; level = k }

abbrev wake_up : (t : ℕ) → t ≤ 2 ^ 40 + 60000 → Level → WakeUp
wake_up t e l = record { tick = t; level = l; early = e }

pub same_wake_up : (x y : WakeUp) → x.tick ≡ y.tick → x.level.number ≡ y.level.number → x ≡ y
same_wake_up x y t l =
    same_made (2 ^ 40 + 60000) (λ n p. wake_up n p x.level) x.tick y.tick x.early y.early t
    ∙ ap (wake_up y.tick y.early) (same_level x.level y.level l)

pub level_lawful : Lawful level_before
level_lawful = record {
  irreflexive = λ x. grind (arith, nat_tests);
  transitive = λ x y z p q. grind (arith, nat_tests);
  total = λ x y p q. same_level x y (grind (arith, nat_tests));
}

pub extra_lawful : Lawful extra_before
extra_lawful = record {
  irreflexive = λ x. grind (arith, nat_tests);
  transitive = λ x y z p q. grind (arith, nat_tests);
  total = λ x y p q. same_extra x y (grind (arith, nat_tests)) (grind (arith, nat_tests));
}

pub wake_up_lawful : Lawful wake_up_before
wake_up_lawful = record {
  irreflexive = λ x. grind (arith, nat_tests);
  transitive = λ x y z p q. grind (arith, nat_tests);
  total = λ x y p q. same_wake_up x y (grind (arith, nat_tests)) (grind (arith, nat_tests));
}
