-- Messages, mail, and their senders.
pub mod MessageLaws
pub mod OpenLaws
pub mod MailLaws
pub mod SendersOpen
pub mod TakenOnce
