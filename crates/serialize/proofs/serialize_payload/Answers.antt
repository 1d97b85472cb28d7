-- `serialize::serialize_payload` meets its contract: refusals 16 and 17 by size and counts, then what the scan answers of the tables lent to their last used words.
use Rattle.std.proofs.Common.{ℕ, Bool, ◌≡◌, refl, sym, ap, ◌∙◌, arith, length}
use Rattle.refusal.specs.Answer.{answer_of}
use Rattle.payload.specs.Tables.{capacities_of}
use Rattle.payload.specs.Write.{counts_fit, write_answer}
use Rattle.payload.specs.declared.Capacities.{Capacities}
use Rattle.payload.specs.declared.Program.{Program}
use Rattle.serialize.specs.Laws.Pooled.{leaves_as, leaves_nothing}
use Rattle.serialize.specs.Laws.Held.{counts_in, store_held, whole_rows, whole_spans, tables_large, tables_over, tables_scanned}
use Rattle.serialize.specs.Laws.Sound.{leaves_unsound}
use Rattle.serialize.proofs.serialize_payload.Goals as goal

-- what the test of the counts answered, said of the tables' words
answered : (rows spans starts pool : ℕ) (g : Program) {k : Capacities} {fit b : Bool} → k ≡ capacities_of rows spans starts pool → fit ≡ counts_fit k g → fit ≡ b → counts_fit (capacities_of rows spans starts pool) g ≡ b
answered rows spans starts pool g e f h = rw (sym e) (sym f ∙ h)

pub returns-then-store-gt-SIZE : goal.returns-then-store-gt-SIZE
unfolding write_answer
returns-then-store-gt-SIZE c =
    let a = c.args in
    leaves_nothing a.pool.now a.out.now
    (tables_large a.store.now a.program a.rows.now a.spans.now a.starts.now (length a.pool.now) (length a.out.now) c.if-store-gt-SIZE.true)
    (ap answer_of (rw c.at.ensures at c.refuse.ensures.value)) c.refuse.ensures.pool_after

pub returns-then-not-counts_fit : goal.returns-then-not-counts_fit
unfolding write_answer
returns-then-not-counts_fit c =
    let a = c.args in
    leaves_nothing a.pool.now a.out.now
    (tables_over a.store.now a.program a.rows.now a.spans.now a.starts.now (length a.pool.now) (length a.out.now) c.if-store-gt-SIZE.false
    (answered _ _ _ _ _ c.of-capacities.ensures c.counts_fit.ensures c.if-not-counts_fit.true))
    (ap answer_of (rw c.at-then-not-counts_fit.ensures at c.refuse-then-not-counts_fit.ensures.value)) c.refuse-then-not-counts_fit.ensures.pool_after

pub in_tables-tables-requires : goal.in_tables-tables-requires
in_tables-tables-requires c = counts_in _ _ _ _ _ (answered _ _ _ _ _ c.of-capacities.ensures c.counts_fit.ensures c.if-not-counts_fit.false)

pub scan_tables-requires-clause-whole_rows : goal.scan_tables-requires-clause-whole_rows
scan_tables-requires-clause-whole_rows c =
    whole_rows _ _ _ _ _ c.in_tables-tables.ensures (counts_in _ _ _ _ _ (answered _ _ _ _ _ c.of-capacities.ensures c.counts_fit.ensures c.if-not-counts_fit.false)).0

pub scan_tables-requires-clause-spans_len : goal.scan_tables-requires-clause-spans_len
scan_tables-requires-clause-spans_len c =
    whole_spans _ _ _ _ _ c.in_tables-tables.ensures (counts_in _ _ _ _ _ (answered _ _ _ _ _ c.of-capacities.ensures c.counts_fit.ensures c.if-not-counts_fit.false)).1

pub returns-in-Err : goal.returns-in-Err
unfolding write_answer
returns-in-Err c =
    let a = c.args in
    leaves_as {pool₁ = a.pool.now}
    (tables_scanned a.store.now a.program a.rows.now a.spans.now a.starts.now (length a.pool.now) (length a.out.now) c.in_tables-tables.ensures c.if-store-gt-SIZE.false
    (answered _ _ _ _ _ c.of-capacities.ensures c.counts_fit.ensures c.if-not-counts_fit.false)) refl
    (leaves_unsound _ _ _ _ c.in-Err.ensures (ap answer_of (rw c.at-in-Err.ensures at c.refuse-in-Err.ensures.value)) c.refuse-in-Err.ensures.pool_after)

pub write_sound-requires-clause-store_len_bound : goal.write_sound-requires-clause-store_len_bound
write_sound-requires-clause-store_len_bound c =
    let same = ap length (store_held _ _ _ _ _ c.in_tables-tables.ensures) in omega (arith, same, c.if-store-gt-SIZE.false)

pub returns : goal.returns
returns c =
    let a = c.args in
    leaves_as {pool₁ = a.pool.now}
    (tables_scanned a.store.now a.program a.rows.now a.spans.now a.starts.now (length a.pool.now) (length a.out.now) c.in_tables-tables.ensures c.if-store-gt-SIZE.false
    (answered _ _ _ _ _ c.of-capacities.ensures c.counts_fit.ensures c.if-not-counts_fit.false)) refl c.write_sound.ensures
