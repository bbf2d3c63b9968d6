-- What the planner answers to a sheet.
use Rattle.std.specs.Prelude.{◌≡◌, ℕ, Bool, false, [], ◌++◌, Ok, Err, is_ok, string_bytes, Result}
use Rattle.planning.specs.Plans.{plan_rows, plan_verdict}
use Rattle.planning.specs.Published.{Judged}
use Rattle.planning.specs.declared.refusal.Refusal.{Refusal}
use Rattle.sheets.specs.declared.entry.Fault.{Fault}
use Rattle.reports.specs.declared.reply.Answer.{Answer}
use Rattle.sheets.specs.Reading.{Page}
use Rattle.sheets.specs.Texts.{fault_text}
use Rattle.reports.specs.Report.{report_text, line_feed}

abbrev pub accepted : Result (Unit {0}) Refusal → Bool
accepted v = is_ok v

-- a sheet that can be read: the report on its tasks, whose verdict is that of the published test on its cores
pub record Planned (p : Page) (a : Answer) : Type 0 where
  pub out_is : string_bytes a.out ≡ report_text p.cores p.rule (plan_rows p.cores p.tasks) (plan_verdict p.cores p.tasks)
  pub err_is : string_bytes a.err ≡ []
  pub accepted_is : a.accepted ≡ accepted (plan_verdict p.cores p.tasks)
  pub published : Judged p.cores p.tasks (plan_verdict p.cores p.tasks)

-- a sheet with a line at fault: nothing but that line and what is wrong with it
pub record Faulty (n : ℕ) (f : Fault) (a : Answer) : Type 0 where
  pub out_is : string_bytes a.out ≡ []
  pub err_is : string_bytes a.err ≡ fault_text n f ++ line_feed
  pub refused : a.accepted ≡ false

abbrev pub Answers : Result Page (ℕ × Fault) → Answer → Type 0
Answers (Ok p) a = Planned p a
Answers (Err e) a = Faulty e.0 e.1 a
