-- `emit::compare_body` meets its contract: a body agrees where the payload's bytes from there on are its own.
use mathlib.Core.Path.{sym, ◌∙◌}
use native.Mathlib.Omega.{arith}
use Rattle.emit.specs.Laws.Bytes.{like_far, like_long, like_none, like_yes, like_no, further_in}
use Rattle.emit.proofs.compare_body.Goals as goal

pub returns-then-end-eq-STOPPED : goal.returns-then-end-eq-STOPPED
returns-then-end-eq-STOPPED c =
    let args = c.args in
    like_far args.payload.now args.s.now args.at (sym c.further_on-end.ensures ∙ c.if-end-eq-STOPPED.true)

pub returns-then-s-eq0 : goal.returns-then-s-eq0
returns-then-s-eq0 c =
    let if1 = c.if-end-eq-STOPPED in
    let end = c.further_on-end in
    let args = c.args in
    (further_in args.payload.now args.s.now args.at end.result end.ensures if1.false).1
    ∙ like_none args.payload.now args.s.now args.at
    (further_in args.payload.now args.s.now args.at end.result end.ensures if1.false).0 c.if-s-eq0.true

pub returns-then-payload-end : goal.returns-then-payload-end
returns-then-payload-end c =
    let end = c.further_on-end in
    let args = c.args in
    like_long args.payload.now args.s.now args.at
    (omega (arith, (further_in args.payload.now args.s.now args.at end.result end.ensures c.if-end-eq-STOPPED.false).1))
    c.if-s-eq0.false

pub equal_parts-requires : goal.equal_parts-requires
equal_parts-requires c =
    let end = c.further_on-end in
    let args = c.args in
    let e = (further_in args.payload.now args.s.now args.at end.result end.ensures c.if-end-eq-STOPPED.false).1 in
    (omega arith, omega arith)

pub returns-then-equal_parts : goal.returns-then-equal_parts
returns-then-equal_parts c =
    let end = c.further_on-end in
    let args = c.args in
    let e = further_in args.payload.now args.s.now args.at end.result end.ensures c.if-end-eq-STOPPED.false in
    e.1
    ∙ like_yes args.payload.now args.s.now args.at e.0 (omega (arith, e.1)) c.equal_parts.result c.equal_parts.ensures
    c.if-equal_parts.true

pub returns : goal.returns
returns c =
    let end = c.further_on-end in
    let args = c.args in
    let e = further_in args.payload.now args.s.now args.at end.result end.ensures c.if-end-eq-STOPPED.false in
    like_no args.payload.now args.s.now args.at e.0 (omega (arith, e.1)) c.equal_parts.result c.equal_parts.ensures
    c.if-equal_parts.false
