use Rattle.std.proofs.Common.{◌≡◌, ℕ, List, IfOk, Ok, Err, Result, vec_items, ◌∙◌, arith, rules}
use Rattle.std.specs.declared.alloc.AllocError.{AllocError}
use Rattle.analysis.specs.declared.task.Task.{Task}
use Rattle.rules.specs.Rules.{Rule, LawfulRule, deadline}
use Rattle.planning.specs.declared.verdict.Plan.{Plan}
use Rattle.planning.specs.Plans as tested
use Rattle.planning.specs.Plans.{core_count}
use Rattle.planning.specs.Published.{Judged}
use Rattle.plans.specs.Plans.{plan_rows, plan_verdict}
use Rattle.plans.specs.Promises.{Promised}
use Rattle.plans.proofs.Deadline.{plan_rows_tested, plan_verdict_tested, plan_judged}
use Rattle.plans.proofs.Plans.{plan_promised}
use Rattle.plans.proofs.plan.plan.Goals as goal

-- from the rows and the verdict follows what else a plan promises
module _ (r : Rule) (n : ℕ) (tasks : List Task) where
  promised : LawfulRule r → (o : Result Plan AllocError) → IfOk o (λ p. vec_items p.rows ≡ plan_rows r n tasks) → IfOk o (λ p. p.verdict ≡ plan_verdict r n tasks) → IfOk o (λ p. Promised r (core_count n) tasks (vec_items p.rows) p.verdict)
  promised law (Ok p) rows verdict = rw (rows, verdict) (plan_promised r law (core_count n) (omega arith) (omega arith) tasks)
  promised law (Err e) rows verdict = tt

  published : (o : Result Plan AllocError) → IfOk o (λ p. p.verdict ≡ plan_verdict r n tasks) → IfOk o (λ p. r ≡ deadline → Judged (core_count n) tasks p.verdict)
  published (Ok p) verdict = λ d. rw verdict (plan_judged r n tasks d)
  published (Err e) verdict = tt

  deadline_rows : (o : Result Plan AllocError) → IfOk o (λ p. vec_items p.rows ≡ plan_rows r n tasks) → IfOk o (λ p. r ≡ deadline → vec_items p.rows ≡ tested.plan_rows n tasks)
  deadline_rows (Ok p) rows = λ d. rows ∙ plan_rows_tested r n tasks d
  deadline_rows (Err e) rows = tt

  deadline_verdict : (o : Result Plan AllocError) → IfOk o (λ p. p.verdict ≡ plan_verdict r n tasks) → IfOk o (λ p. r ≡ deadline → p.verdict ≡ tested.plan_verdict n tasks)
  deadline_verdict (Ok p) verdict = λ d. verdict ∙ plan_verdict_tested r n tasks d
  deadline_verdict (Err e) verdict = tt

pub returns-in-Ok : goal.returns-in-Ok
returns-in-Ok g c =
    let r = g.R.CountingRule.rule c.args.rule.now in
    let n = c.args.cores in
    let tasks = c.args.tasks.now in
    let told : IfOk c.judge.result (λ p. vec_items p.rows ≡ plan_rows r n tasks) = search rules in
    let verdict : IfOk c.judge.result (λ p. p.verdict ≡ plan_verdict r n tasks) = search rules in
    record {
      rows = told;
      verdict = verdict;
      promised = promised r n tasks (g.met.R.CountingRule.laws c.args.rule.now) c.judge.result told verdict;
      published = published r n tasks c.judge.result verdict;
      deadline_rows = deadline_rows r n tasks c.judge.result told;
      deadline_verdict = deadline_verdict r n tasks c.judge.result verdict;
    }

pub returns-in-Err-Refused-clause-promised : goal.returns-in-Err-Refused-clause-promised
returns-in-Err-Refused-clause-promised g c =
    promised _ c.args.cores c.args.tasks.now (g.met.R.CountingRule.laws c.args.rule.now) (Ok (record { rows = c.new-rows.result; verdict = Err c.in-Err-Refused.refusal })) (search rules) (search rules)

pub returns-in-Err-Refused-clause-published : goal.returns-in-Err-Refused-clause-published
returns-in-Err-Refused-clause-published g c =
    published (g.R.CountingRule.rule c.args.rule.now) c.args.cores c.args.tasks.now (Ok (record { rows = c.new-rows.result; verdict = Err c.in-Err-Refused.refusal })) (search rules)
