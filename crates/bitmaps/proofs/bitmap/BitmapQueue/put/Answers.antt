use Rattle.std.proofs.Common.{eqb, length, sym, refl, ◌∙◌, arith}
use Rattle.queues.specs.Items.{level_before}
use Rattle.queues.specs.Sets.{has}
use Rattle.std.proofs.lemmas.Bool.{cond-false, ne_eqb}
use Rattle.bitmaps.specs.Bitmaps.{levels_in}
use Rattle.bitmaps.proofs.Digits.{not_full}
use Rattle.bitmaps.proofs.bitmap.BitmapQueue.put.Goals as goal

pub returns : goal.returns
returns c =
    let s = levels_in c.args.self.now.bits in
    let lacks = sym c.if-is_set.ensures in
    record {
      good = λ h. c.set.new.self.fits;
      room = refl;
      answer = λ h.
          let f = not_full c.args.self.now.bits c.args.item h lacks in
          sym (cond-false (has level_before c.args.item s) _ _ lacks ∙ cond-false (eqb (length s) 64) _ _ (ne_eqb (length s) 64 (λ e. omega arith)));
      items = λ h.
          let f = not_full c.args.self.now.bits c.args.item h lacks in
          c.set.ensures ∙ sym (cond-false (has level_before c.args.item s) _ _ lacks ∙ cond-false (eqb (length s) 64) _ _ (ne_eqb (length s) 64 (λ e. omega arith)));
    }
