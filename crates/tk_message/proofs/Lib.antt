pub mod LastSignOutLaws
pub mod MemberLaws
pub mod PageLaws
mod ReplyLaws
pub mod ShownLaws
mod SubjectPageLaws
