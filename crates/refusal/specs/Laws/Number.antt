-- No two reasons have one number, and none has 0.
use Rattle.std.specs.Prelude.{ℕ, ◌≡◌, cond, eqb, refl}
use Rattle.std.proofs.Common.{ap, arith, sym, ◌∙◌}
use Rattle.refusal.specs.Number.{number}
use Rattle.refusal.specs.declared.Reason.{Reason}
use Rattle.refusal.specs.declared.Reason.TheVariants.{EndInItem, LongVarint, NotUtf8, IndexAbovePool, UnknownTag, NotScalar, WrongRunCounts, PositionOutOfRange, ForbiddenKey, RepeatedKey, TemplateNotFunction, UnknownHandle, WrongLineFlag}
use Rattle.refusal.specs.declared.Reason.TheVariants.{UnlistedNative, TooDeep, TooLarge, Unsound, UnnamedRecord, NotHouseWritten, StartsNotRising, PoolFull, RowsFull, SpansFull, StartsFull, OutputTooShort}

-- the reason that has a number
reason_of : ℕ → Reason
reason_of n =
    cond (eqb n 1) EndInItem (
    cond (eqb n 2) LongVarint (
    cond (eqb n 3) NotUtf8 (
    cond (eqb n 4) IndexAbovePool (
    cond (eqb n 5) UnknownTag (
    cond (eqb n 6) NotScalar (
    cond (eqb n 7) WrongRunCounts (
    cond (eqb n 8) PositionOutOfRange (
    cond (eqb n 9) ForbiddenKey (
    cond (eqb n 10) RepeatedKey (
    cond (eqb n 11) TemplateNotFunction (
    cond (eqb n 12) UnknownHandle (
    cond (eqb n 13) WrongLineFlag (
    cond (eqb n 14) UnlistedNative (
    cond (eqb n 15) TooDeep (
    cond (eqb n 16) TooLarge (
    cond (eqb n 17) Unsound (
    cond (eqb n 18) UnnamedRecord (
    cond (eqb n 19) NotHouseWritten (
    cond (eqb n 20) StartsNotRising (
    cond (eqb n 21) PoolFull (
    cond (eqb n 22) RowsFull (
    cond (eqb n 23) SpansFull (
    cond (eqb n 24) StartsFull (
    OutputTooShort))))))))))))))))))))))))

reason_of-number : (r : Reason) → reason_of (number r) ≡ r
unfolding reason_of
reason_of-number EndInItem = refl
reason_of-number LongVarint = refl
reason_of-number NotUtf8 = refl
reason_of-number IndexAbovePool = refl
reason_of-number UnknownTag = refl
reason_of-number NotScalar = refl
reason_of-number WrongRunCounts = refl
reason_of-number PositionOutOfRange = refl
reason_of-number ForbiddenKey = refl
reason_of-number RepeatedKey = refl
reason_of-number TemplateNotFunction = refl
reason_of-number UnknownHandle = refl
reason_of-number WrongLineFlag = refl
reason_of-number UnlistedNative = refl
reason_of-number TooDeep = refl
reason_of-number TooLarge = refl
reason_of-number Unsound = refl
reason_of-number UnnamedRecord = refl
reason_of-number NotHouseWritten = refl
reason_of-number StartsNotRising = refl
reason_of-number PoolFull = refl
reason_of-number RowsFull = refl
reason_of-number SpansFull = refl
reason_of-number StartsFull = refl
reason_of-number OutputTooShort = refl

pub number-injective : (a b : Reason) → number a ≡ number b → a ≡ b
number-injective a b e = sym (reason_of-number a) ∙ ap reason_of e ∙ reason_of-number b

pub number_positive : (r : Reason) → number r ≡ 0 → ⊥
number_positive EndInItem e = absurd (omega arith)
number_positive LongVarint e = absurd (omega arith)
number_positive NotUtf8 e = absurd (omega arith)
number_positive IndexAbovePool e = absurd (omega arith)
number_positive UnknownTag e = absurd (omega arith)
number_positive NotScalar e = absurd (omega arith)
number_positive WrongRunCounts e = absurd (omega arith)
number_positive PositionOutOfRange e = absurd (omega arith)
number_positive ForbiddenKey e = absurd (omega arith)
number_positive RepeatedKey e = absurd (omega arith)
number_positive TemplateNotFunction e = absurd (omega arith)
number_positive UnknownHandle e = absurd (omega arith)
number_positive WrongLineFlag e = absurd (omega arith)
number_positive UnlistedNative e = absurd (omega arith)
number_positive TooDeep e = absurd (omega arith)
number_positive TooLarge e = absurd (omega arith)
number_positive Unsound e = absurd (omega arith)
number_positive UnnamedRecord e = absurd (omega arith)
number_positive NotHouseWritten e = absurd (omega arith)
number_positive StartsNotRising e = absurd (omega arith)
number_positive PoolFull e = absurd (omega arith)
number_positive RowsFull e = absurd (omega arith)
number_positive SpansFull e = absurd (omega arith)
number_positive StartsFull e = absurd (omega arith)
number_positive OutputTooShort e = absurd (omega arith)
