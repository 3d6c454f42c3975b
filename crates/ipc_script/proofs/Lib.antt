pub mod DecimalNumbers
pub mod LinesAndWords
pub mod LineWords
pub mod HexDigits
pub mod HexBytes
pub mod WrittenText
pub mod FaultCases
pub mod FirstFrame
pub mod FrameLines
pub mod ConnectionText
pub mod RisingNumbers
pub mod ReportText
pub mod HubAndClients
pub mod UnchangedHeads
pub mod FedPieces
pub mod OpenConnections
pub mod Lasting
pub mod LineForms
pub mod ScriptLines
pub mod OpenedAgain
pub mod Halting
pub mod Stopping
pub mod Answered
pub mod Going
pub mod DumpText
mod LineLengths
mod NumbersSpent
