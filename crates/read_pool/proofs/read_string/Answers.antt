-- `read_string` meets its contract: the length, the body, and whether the body is UTF-8.
use Rattle.std.specs.Prelude.{◌≡◌, refl, drop, take}
use Rattle.std.proofs.Common.{sym, ap, ◌∙◌}
use Rattle.payload.specs.Reading.{read_string}
use Rattle.refusal.specs.Laws.Errors.{same_error}
use Rattle.cursor.specs.Laws.Advances.{then_reads, stop_reads, here_reads, must_reads, must_not_reads, pure_reads}
use Rattle.read_pool.proofs.read_string.Goals as goal

pub returns-in_err-length : goal.returns-in_err-length
unfolding read_string
returns-in_err-length c = rw (same_error c.from_residual.result _ c.from_residual.ensures.1) (record { is = stop_reads _ c.in_err-length.ensures.advances; inside = tt })

pub returns-in_err-take : goal.returns-in_err-take
unfolding read_string
returns-in_err-take c = rw (same_error c.from_residual-in_err-take.result _ c.from_residual-in_err-take.ensures.1) (record {
  is = then_reads _ c.in_ok-length.ensures.advances (here_reads _ (stop_reads _ c.in_err-take.ensures.advances));
  inside = tt;
})

pub returns-then-is_utf8 : goal.returns-then-is_utf8
unfolding read_string
returns-then-is_utf8 c =
    let t = c.in_ok-take.ensures.taken in
    let o = c.uvarint.new.self.at in
    let n = c.in_ok-length.length in
    let same : c.in_ok-take.field-0.now ≡ take n (drop o c.args.cursor.now.payload.now) = t.are ∙ ap (λ b. take n (drop o b.now)) c.in_ok-length.ensures.advances.payload in
    record {
      is = rw (← same) (then_reads _ c.in_ok-length.ensures.advances (here_reads _ (then_reads _ c.in_ok-take.ensures.advances (must_reads _ _ (sym c.is_utf8.ensures ∙ c.if-is_utf8.true) (pure_reads _)))));
      inside = rw c.in_ok-length.ensures.advances.payload at t.inside;
    }

pub returns : goal.returns
unfolding read_string
returns c = rw c.at.ensures (record {
  is = then_reads _ c.in_ok-length.ensures.advances (here_reads _ (then_reads _ c.in_ok-take.ensures.advances (must_not_reads _ (sym c.is_utf8.ensures ∙ c.if-is_utf8.false) refl)));
  inside = tt;
})
