-- Document 01's numbers of the reasons for a refusal.
use Rattle.std.specs.Prelude.{ℕ}
use Rattle.refusal.specs.declared.Reason.{Reason}
use Rattle.refusal.specs.declared.Reason.TheVariants.{EndInItem, LongVarint, NotUtf8, IndexAbovePool, UnknownTag, NotScalar, WrongRunCounts, PositionOutOfRange, ForbiddenKey, RepeatedKey, TemplateNotFunction, UnknownHandle, WrongLineFlag}
use Rattle.refusal.specs.declared.Reason.TheVariants.{UnlistedNative, TooDeep, TooLarge, Unsound, UnnamedRecord, NotHouseWritten, StartsNotRising, PoolFull, RowsFull, SpansFull, StartsFull, OutputTooShort}

abbrev pub number : Reason → ℕ
number EndInItem = 1
number LongVarint = 2
number NotUtf8 = 3
number IndexAbovePool = 4
number UnknownTag = 5
number NotScalar = 6
number WrongRunCounts = 7
number PositionOutOfRange = 8
number ForbiddenKey = 9
number RepeatedKey = 10
number TemplateNotFunction = 11
number UnknownHandle = 12
number WrongLineFlag = 13
number UnlistedNative = 14
number TooDeep = 15
number TooLarge = 16
number Unsound = 17
number UnnamedRecord = 18
number NotHouseWritten = 19
number StartsNotRising = 20
number PoolFull = 21
number RowsFull = 22
number SpansFull = 23
number StartsFull = 24
number OutputTooShort = 25
