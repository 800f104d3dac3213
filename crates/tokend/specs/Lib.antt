-- The definitions of this crate:
--   Rules         service_rules, the options of the subcommands as clap's contracts see them
--   CommandLine   tokend_app, the command line as clap's contracts see it
--   Choices       HasChoices, what a service does if the profile leaves a choice
--   Challenges    rules_named, what is required of challenges by the words of an option
--   Kinds         kinds_named, the kinds of redirection URIs by the words of an option
--   Notices       issuer_named, the issuer of a service by the value of an option
--   Ranges        range_named and accepted_named, the region numbers of sites; terms_of a push
--   Task          Asks, the task that the arguments request
--   Draw          six, the random words of a connection
--   Telling       Writes, what lines about faults leave of their writer
--   Script        AreEvents, the events of a script; words_at, their random words; IsFirstBad, its
--                 first bad line
--   Loading       Loads, what an old log brings to a region
--   Starting      IsStart, the start of a service; PrunesOld, its prune
--   Serving       Announces, the lines before a service's first connection; IsServiceFault, what
--                 may prevent it
--   Repeats       is_repeat, a refresh that is repeated
--   Counting      with_end, what a server counts of a request
--   Decisions     Decides, what a server decides of the bytes that have come
--   Repeating     IsAsked, what a request asks if refreshes may be repeated
--   Pruning       IsPruned, what a server prunes behind a turn
--   RepliesText   requests_text, the text of the replies
--   Exposition    exposition, the text of the metrics
--   Turns         AreTurns, what turns do to an edge, its log and the lines about faults
--   Showing       shown_by, a server that makes that text anew
--   Connection    IsConnection, what a connection of `loopback` does to an edge and its log
--   LogParts      part_name, the name of a log's part; joined, the bytes of parts
--   Parted        GoesOn, how a log goes on in its next part; BeginsAs, how it begins
--   ServiceRun    IsServiceRun, what a service that ended well has done
--   Growing       Grows, what serving leaves of a region
--   KeptLog       LogKeepsAll, a log of bundles has all that its region holds
--   Status        status_of, the exit status of a fault; LeavesBegun, what a fault leaves of the
--                 output
--   ScriptRun     IsScriptRun, the lines of a script that is run; in_world, a run in a world
--   LoopbackRun   by_sockets, the way of requests through sockets; by_loopback, a run with these
--   FactsRun      PrintsFacts, what printing the facts of sources does
--   CheckRun      ChecksFacts, what checking whether sources can be loaded does
--   ProgramRun    IsDone, IsFaultFor: what a run of the program does
pub mod Rules
pub mod CommandLine
pub mod Challenges
pub mod Choices
pub mod Kinds
pub mod Notices
pub mod Ranges
pub mod Task
pub mod Draw
pub mod Telling
pub mod Script
pub mod Loading
pub mod Starting
pub mod Serving
pub mod Repeats
pub mod RepliesText
pub mod Counting
pub mod Decisions
pub mod Repeating
pub mod Pruning
pub mod Exposition
pub mod Turns
pub mod Showing
pub mod Connection
pub mod LogParts
pub mod Parted
pub mod ServiceRun
pub mod Growing
pub mod KeptLog
pub mod Status
pub mod ScriptRun
pub mod LoopbackRun
pub mod FactsRun
pub mod CheckRun
pub mod ProgramRun
