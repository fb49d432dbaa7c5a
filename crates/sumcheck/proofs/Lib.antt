-- The laws of the protocol, over any modulus n.
--   Corners       the corners of m variables have m members, 0 or 1, and indices below 2^m, in order
--   Extension     an extension has degree at most 1 in each variable
--   Folding       binding the first variable is folding; an extension agrees with its table at the corners
--   TruePolynomial  a true polynomial has the values that the document says, and is the only one; its values at 0 and 1
--   Halves        an extension by halves; the true sum by places
--   Meaning       the true sum in plain numbers; what the true polynomial is (specs/Meaning)
--   MeaningWorked   the numbers of specs/Meaning
--   Parts         a lent list as parts of one size
--   Answers       the entries' answers, one test at a time
--   Folded        RoundFolded   tables folded by several challenges, and a true polynomial from them
--   Laid          pieces of one length laid over the front of a list
--   Written       a list whose first places have been written
--   FoldedParts   folding tables that lie one after the other in one list
--   Terms         a round's polynomial as loops make it
--   Progress      the prover's progress, a round at a time
--   Search        the walk for refusal 5: table by table, place by place
--   Walk          the rounds taken one by one from a lent message list
--   Unrefused     what a call knows that was not refused
--   Entries       what the checker knows of what was lent to it
--   Prover        the prover's refusals, one test at a time
--   Part          where the round part lies, and that it is the message that is judged
--   Steps         the paths of a step
--   Course        every sum agrees, or there is a first that fails
--   Messages      a lent list as messages, and messages as a list
--   Proving       what the prover leaves (specs/Proving)
--   Checker       the demands on the checker's own answer (specs/Checker)
--   WithoutTables   the checker without tables beside the one with tables
--   TrueClaim     a true claim is accepted by the checker's own answer
--   Followed      the protocol's own course over inputs of steps
--   Sequences     any sequence of steps answers as the protocol does (specs/Sequences)
--   Agreement     steps and closing agree with the checker
--   Completeness  Soundness   the demands of specs/Demands
pub mod Corners
pub mod Extension
pub mod Folding
pub mod TruePolynomial
pub mod Completeness
pub mod Soundness
pub mod Search
pub mod Halves
pub mod Meaning
pub mod MeaningWorked
pub mod Parts
pub mod Answers
pub mod Folded
pub mod RoundFolded
pub mod Laid
pub mod Written
pub mod FoldedParts
pub mod Terms
pub mod Progress
pub mod Walk
pub mod Unrefused
pub mod Part
pub mod Entries
pub mod Prover
pub mod Steps
pub mod Course
pub mod Messages
pub mod Proving
pub mod Checker
pub mod WithoutTables
pub mod TrueClaim
pub mod Followed
pub mod Sequences
pub mod Agreement
