use Rattle.std.specs.Prelude.{ℕ, Some, None, Option}
use Rattle.refusals.specs.declared.Refusal.{Refusal}
use Rattle.refusals.specs.declared.Refusal.TheVariants.{FewParticipants, ManyParticipants, NoFaults, ManyFaults, NoRounds, NoCap, ManyRounds, CountMemory, TotalTooLarge, RankMemory, WordsSpent, TicketMemory, RigNumber, NothingLeft, ShortMemory, OutOfRange, NotCanonical, NoTerm, ManyNames, NoNames, UnknownSender, GroupMemory, LeaderOutOfRange, PlanLine}

-- the number of a cause
abbrev pub number_of : Refusal → ℕ
number_of FewParticipants = 1
number_of ManyParticipants = 2
number_of NoFaults = 3
number_of ManyFaults = 4
number_of NoRounds = 5
number_of NoCap = 6
number_of ManyRounds = 7
number_of CountMemory = 8
number_of TotalTooLarge = 9
number_of RankMemory = 10
number_of WordsSpent = 11
number_of TicketMemory = 12
number_of RigNumber = 13
number_of NothingLeft = 14
number_of ShortMemory = 15
number_of OutOfRange = 16
number_of NotCanonical = 17
number_of NoTerm = 18
number_of ManyNames = 19
number_of NoNames = 20
number_of UnknownSender = 21
number_of GroupMemory = 22
number_of LeaderOutOfRange = 23
number_of (PlanLine place) = 24

-- the place of a text's fault: no other cause has one
abbrev pub place_of : Refusal → Option ℕ
place_of (PlanLine place) = Some place
place_of _ = None
