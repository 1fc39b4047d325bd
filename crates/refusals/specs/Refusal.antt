-- Document 01's number for each cause.
use Rattle.std.specs.Prelude.{ℕ}
use Rattle.refusals.specs.declared.Cause.{Cause}
use Rattle.refusals.specs.declared.Cause.TheVariants as cause

abbrev pub number_of_cause : Cause → ℕ
number_of_cause cause.WrongLength = 1
number_of_cause cause.UnknownVersion = 2
number_of_cause cause.NotZero = 3
number_of_cause cause.CutOff = 4
number_of_cause cause.WrongCounts = 5
number_of_cause cause.UnknownKind = 6
number_of_cause cause.NotInPool = 7
number_of_cause cause.AddressOverflow = 8
number_of_cause cause.BytesAfter = 9
number_of_cause cause.NoRecord = 10
number_of_cause cause.NoItem = 11
number_of_cause cause.NoStatepoint = 12
number_of_cause cause.WrongImage = 13
number_of_cause cause.WrongTable = 14
number_of_cause cause.SharedAddress = 15
number_of_cause cause.ExtentOutside = 16
number_of_cause cause.TooManyPointers = 17
number_of_cause cause.WrongPair = 18
number_of_cause cause.SlotOutside = 19
number_of_cause cause.Collision = 20
number_of_cause cause.UnknownBase = 21
number_of_cause cause.WrongItem = 22
number_of_cause cause.TooManyItems = 23
number_of_cause cause.TooShort = 24
number_of_cause cause.WrongFrames = 25
number_of_cause cause.SharedExtent = 26
number_of_cause cause.OtherVersion = 27
number_of_cause cause.TooWide = 28
number_of_cause cause.OtherIndex = 29
number_of_cause cause.NoEditionFree = 30
number_of_cause cause.UnknownEdition = 31
number_of_cause cause.EditionTooLarge = 32
number_of_cause cause.NotAllowed = 33
number_of_cause cause.TotalOverflow = 34
number_of_cause cause.WrongTrace = 35
number_of_cause cause.WrongFlatLength = 36
number_of_cause cause.UnknownFlatVersion = 37
number_of_cause cause.Misplaced = 38
number_of_cause cause.PastArray = 39
number_of_cause cause.ReservedBit = 40
number_of_cause cause.NoFrameRecord = 41
number_of_cause cause.OutsideProfile = 50
number_of_cause cause.WrongEdition = 51
